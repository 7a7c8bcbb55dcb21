-- `Slots`: what makes slots a frame, and what fills one. `SparsePairs` and `SparseSearch`: what is found among pairs, and where.
pub mod SparsePairs
pub mod SparseSearch
pub mod Slots
