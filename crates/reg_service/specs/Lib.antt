pub mod Deliveries
pub mod Admissions
pub mod Crashes
pub mod Services
pub mod Transitions
pub mod Processing
pub mod Inside
pub mod Restarts
