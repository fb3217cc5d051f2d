pub mod Above
mod Around
mod Changed
mod Cutting
mod Ends
mod First
mod Flat
mod InPlace
mod Paths
mod Shelves
mod Split
mod Walks
