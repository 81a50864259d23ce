pub mod Output
pub mod Sessions
pub mod Inside
pub mod Conversations
