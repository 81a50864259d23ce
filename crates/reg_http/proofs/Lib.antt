pub mod Ranges
pub mod ReplyLemmas
pub mod SessionLemmas
pub mod EndLemmas
pub mod ConversationLemmas
