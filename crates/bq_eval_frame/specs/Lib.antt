pub mod Sparse
pub mod Slots
