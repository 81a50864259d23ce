pub mod TextBytes
pub mod OfTexts
