pub mod CountedDevice
pub mod Lines
pub mod StreamPrivate
pub mod Stream
pub mod Runs
