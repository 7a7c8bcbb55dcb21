-- the packages of modules ascend
pub mod Ascending
-- a map of the places of names, and what is found by it
mod ByName
-- what may cross threads
pub mod Crossing
-- what is found for elements, one after another
pub mod Found
-- what a file gets of the modules that it loads, one load after another
mod Imported
-- what the load graph of a workspace decides
pub mod Joined
-- the line of the first load of a file, one load after another
mod Lined
-- modules with their outcomes, one after another
pub mod Listed
-- what a module evaluates to, by what its file is and what it gets
pub mod Meanings
-- the labels of the modules of a load graph
pub mod Named
-- maps of the places of names, one for each of some modules
mod Placed
-- what the threads of a pool bring
pub mod Pooled
-- fault lines that are put one after another
pub mod Put
