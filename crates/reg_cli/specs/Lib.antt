pub mod Commands
pub mod Numbers
pub mod Tasks
pub mod Line
