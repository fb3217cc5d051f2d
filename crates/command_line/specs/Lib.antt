pub mod ParsedCommands
pub mod CommandLinePrivate
pub mod CommandLine
pub mod Conversions
pub mod Laws
pub mod Versions
