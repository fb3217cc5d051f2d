pub mod Alone
pub mod Calling
pub mod Growing
pub mod OutcomeTexts
pub mod Workers
