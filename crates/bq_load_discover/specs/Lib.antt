pub mod Schema
pub mod Module
pub mod Modules
pub mod Exploring
pub mod Waves
pub mod Edges
pub mod LoadGraph
pub mod Laws
