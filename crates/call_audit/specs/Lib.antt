pub mod Texts
pub mod Audits
pub mod AuditsPrivate
pub mod Follows
pub mod Represents
pub mod Verdicts
pub mod Confirmed
