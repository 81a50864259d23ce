pub mod Viewing
pub mod TableChecks
pub mod Applying
pub mod Reads
pub mod Evidence
pub mod Auditing
