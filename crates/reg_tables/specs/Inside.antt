pub mod ReadableRows
pub mod AllRawRows
pub mod Forms
pub mod Checks
pub mod Keyed
pub mod Statements
pub mod FailedLists
pub mod KeyedLaws
