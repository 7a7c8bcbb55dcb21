-- The lexer counts lines from 1.
pub mod Tokens
-- Pieces of a file aren't empty.
pub mod Pieces
-- names
pub mod Names
-- load graphs
pub mod Graphs
-- outcomes of modules
pub mod Outcomes
-- packages of modules
pub mod Packages
-- faults of modules
pub mod Faults
-- calls along loads
pub mod Calls
-- what files read as
pub mod Fronts
-- the files that an evaluation sees, and the symbols that loads give
pub mod Seen
pub mod Imports
-- what a value reaches
pub mod Reached
-- a BUILD file's evaluation sees of paths what `glob` gives
pub mod Globbed
-- modules that evaluate as before
pub mod Alike
pub mod Kept
