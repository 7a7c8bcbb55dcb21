-- in which order a module fails
pub mod Orders
-- the first load of a file
pub mod FirstLoad
-- what is read of a module
pub mod Read
-- the load that an outcome names
pub mod Loads
-- what a module exports
pub mod Exports
-- what a module printed
pub mod Prints
