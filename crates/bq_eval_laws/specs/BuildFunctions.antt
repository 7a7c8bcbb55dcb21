pub mod Orders
pub mod Nothing
pub mod Defaults
