pub mod Parses
pub mod Taking
pub mod Examples
