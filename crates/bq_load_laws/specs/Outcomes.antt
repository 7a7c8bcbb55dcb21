pub mod Orders
pub mod FirstLoad
pub mod Exports
pub mod Prints
