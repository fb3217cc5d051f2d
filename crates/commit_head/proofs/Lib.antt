pub mod Begun
pub mod Checking
pub mod FewReads
pub mod Journals
pub mod OnBooks
pub mod Preparing
