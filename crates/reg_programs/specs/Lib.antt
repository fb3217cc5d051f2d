pub mod Alone
pub mod Ends
pub mod Programs
pub mod Sessions
pub mod SessionsPrivate
pub mod Served
pub mod Told
