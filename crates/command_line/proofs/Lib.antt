pub mod Lines
pub mod Seeds
pub mod Words
