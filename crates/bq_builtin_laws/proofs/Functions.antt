-- lists that go backwards
pub mod Reversed
-- what counts as true
pub mod Truths
-- the elements of ranges
pub mod Ranges
-- what is printed
pub mod Prints
-- lists and tuples of elements
pub mod Listed
-- lists that are sorted backwards
pub mod Backwards
