pub mod Names
pub mod Nodes
pub mod Limits
pub mod Identity
pub mod Inside
pub mod Plain
pub mod Whole
pub mod Respelling
