pub mod Codes
pub mod Domain
pub mod Failures
pub mod Id
pub mod Selector
pub mod SelectorOrder
pub mod SelectorSet
pub mod Laws
