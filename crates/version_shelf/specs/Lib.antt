pub mod Nodes
pub mod Shelf
