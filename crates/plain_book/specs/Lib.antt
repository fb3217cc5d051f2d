pub mod Blocks
pub mod Found
pub mod Keeps
pub mod Laws
pub mod Performed
pub mod Ranks
pub mod Siblings
