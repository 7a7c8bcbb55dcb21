pub mod Lists
pub mod Once
pub mod Exploring
pub mod Ordered
pub mod Rows
pub mod Readings
pub mod Steps
pub mod Graphs
pub mod Inputs
pub mod OneGraph
pub mod Files
-- what may cross threads
pub mod Crossing
