pub mod Order
pub mod Graph
pub mod Edges
pub mod BuildFiles
pub mod Dangling
pub mod Parts
pub mod Runs
pub mod Nodes
