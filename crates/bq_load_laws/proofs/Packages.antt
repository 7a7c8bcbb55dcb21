-- what a statement makes of what a host keeps, and one after another
pub mod Keeping
-- in which line a call declares
pub mod Lines
-- the calls of BUILD files leave the label, and add targets in the line that is running
pub mod Calls
-- so do the statements of a file, one after another
pub mod Running
-- and the package that a file makes is its own, and has the targets that the file declares
pub mod Made
-- and that of each outcome
pub mod Outcomes
-- so have the packages of a workspace
pub mod Declared
-- nobody sees what BUILD files keep
pub mod Kept
