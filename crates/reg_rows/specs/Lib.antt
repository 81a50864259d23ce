pub mod Inside
pub mod Meta
pub mod Positions
pub mod Spelling
