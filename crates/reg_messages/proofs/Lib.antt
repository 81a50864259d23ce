pub mod FieldLemmas
pub mod Fronts
pub mod Statuses
pub mod Unique
