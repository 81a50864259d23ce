pub mod EachRow
pub mod LastTests
pub mod PositionLemmas
