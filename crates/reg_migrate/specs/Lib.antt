pub mod Errors
pub mod Migrations
pub mod Inside
