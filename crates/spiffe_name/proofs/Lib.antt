pub mod Domains
pub mod Ids
pub mod Pairs
pub mod SelectorSets
pub mod Sets
pub mod Tables
