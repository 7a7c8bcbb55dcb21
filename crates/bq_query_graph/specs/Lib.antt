pub mod Paths
pub mod Marks
pub mod Edges
pub mod Rows
pub mod Counting
pub mod Laws
