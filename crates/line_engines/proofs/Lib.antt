pub mod Auditing
pub mod Confirming
pub mod Driving
pub mod Recording
pub mod Replaying
pub mod Running
pub mod Scheduling
