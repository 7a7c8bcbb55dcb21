pub mod Greedy
pub mod Segments
pub mod Cuttings
pub mod Literals
pub mod Pieces
-- the last segments of a pattern and of a path
pub mod Ends
-- sets of patterns, and what is added to them
pub mod Sets
pub mod Beneath
pub mod Listing
-- a pattern gives no name by itself exactly where it matches none of the names that it gives together with others
pub mod Alone
pub mod GivenNames
pub mod Others
