pub mod CommitRefusals
pub mod Heads
pub mod Journals
pub mod Laws
pub mod Outcomes
