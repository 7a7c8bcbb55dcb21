-- what is loaded is a .bzl file
pub mod Files
-- the values along loads
pub mod Values
-- paths of loads
pub mod Paths
