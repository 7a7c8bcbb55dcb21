-- definitions by cases, as words
pub mod Cases
-- what is read of files
pub mod Read
-- a module, by what it loads
pub mod Imports
pub mod Modules
-- the recursion along loads
pub mod Outcomes
