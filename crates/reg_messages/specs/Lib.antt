pub mod Fields
pub mod Framing
pub mod Messages
pub mod ParseOutcomes
pub mod BorrowedRequests
pub mod Closing
pub mod Responses
