-- the trees of resolved files
pub mod Trees
-- labels, files and packages
pub mod Workspaces
-- sets of labels and of names
pub mod Sets
-- modules that were read
pub mod Readings
