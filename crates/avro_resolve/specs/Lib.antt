pub mod Resolution
pub mod Witnesses
pub mod Verdicts
pub mod Asking
pub mod Inside
