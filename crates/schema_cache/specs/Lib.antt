pub mod Entries
pub mod Cached
pub mod Inside
pub mod Answers
