pub mod Lists
pub mod Ascends
pub mod Repeats
pub mod RowEdges
pub mod Depends
pub mod Places
pub mod Whole
pub mod Files
pub mod Danglings
pub mod Parts
pub mod Runs
pub mod InOrder
-- what may cross threads
pub mod Crossing
-- Parts of definitions, as words that proofs name.
pub mod Cases
