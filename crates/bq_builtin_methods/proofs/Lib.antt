pub mod Cases
-- what changes a list or dict changes the machine
pub mod Changes
-- the first pair of a dict
pub mod First
-- what a dict has after pairs were put into it
pub mod Updates
-- what a dict has after `setdefault` and `pop`
pub mod Defaults
-- what is put into a list is taken out by its place
pub mod Places
-- what a dict holds after `update` by another one
pub mod Ends
-- a row that is found by its name is the row of the call
pub mod Found
-- tables have a name for each of their methods
pub mod Tables
-- calls that are refused
pub mod Calls
