pub mod Comparisons
pub mod Registering
pub mod Evidence
pub mod Deleting
