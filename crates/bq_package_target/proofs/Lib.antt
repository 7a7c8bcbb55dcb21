pub mod Taking
pub mod Walking
pub mod Finding
pub mod States
pub mod Made
pub mod Accepted
-- a list of no elements
pub mod Empty
-- Parts of definitions, as words that proofs name.
pub mod Cases
mod ByNames
-- Targets and packages may cross threads.
pub mod Crossing
-- what a target depends on
pub mod Writing
-- the source files that no call declares
pub mod Implicit
-- the files that a call exports
pub mod Exporting
