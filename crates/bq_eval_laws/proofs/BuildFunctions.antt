-- the faults of calls of build functions
pub mod Orders
-- a `glob` that gives nothing
pub mod Nothing
-- defaults, beside the values of calls
pub mod Defaults
