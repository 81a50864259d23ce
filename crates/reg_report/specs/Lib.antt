pub mod Csv
pub mod StoreResults
pub mod Buffering
pub mod Keeping
pub mod Printing
