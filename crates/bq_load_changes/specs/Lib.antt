pub mod Graph
pub mod Paths
pub mod Same
