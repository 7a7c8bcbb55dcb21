pub mod Cases
-- what runs say
pub mod Answering
-- a stable sort gives the one list in order
pub mod Sorting
-- `all` and `any` by one element
pub mod Counts
-- the integers of ranges
pub mod Ranges
-- texts as integers
pub mod Numerals
-- numbers in a row
pub mod Numbers
-- what `all`, `any`, `max`, `min` and `sorted` give of ranges
pub mod OfRanges
-- a row of `zip`
pub mod Columns
-- lists in order
pub mod Orders
-- what holds of the answers
pub mod Answered
