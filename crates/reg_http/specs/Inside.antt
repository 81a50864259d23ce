pub mod Replying
pub mod SessionSteps
pub mod Readings
pub mod InputEnds
