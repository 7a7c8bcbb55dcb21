pub mod Gives
pub mod Bytes
pub mod Fault
pub mod Shown
pub mod Limits
