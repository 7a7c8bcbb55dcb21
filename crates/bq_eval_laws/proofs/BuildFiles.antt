-- the calls of build functions and of rules
pub mod Calls
