pub mod Calls
pub mod Kept
pub mod Known
pub mod Laws
pub mod Machine
pub mod Schedules
