pub mod NumberCases
-- What a checked operation answers.
pub mod Fits
-- what a quotient leaves
pub mod Rests
-- division by the signs of what is divided
pub mod Rounding
-- shifts as products and quotients by powers of two
pub mod Shifts
-- the bounds of slices and of ranges
pub mod Bounds
-- what is left of a sum and a product in 64 bits
pub mod Wrapping
-- what a slice takes
pub mod Slices
-- the elements at the places of a range
pub mod SliceElements
-- which integers are in a range
pub mod RangeMembers
-- slices of lists that are put together of parts, and indices of their elements
pub mod SliceCuts
pub mod PartCases
pub mod Places
pub mod Pieces
pub mod Joining
pub mod Separated
pub mod Marks
-- One word after another.
pub mod WordCases
pub mod WordCuts
-- One line after another.
pub mod LineCuts
-- The words are the longest runs of bytes that are not space.
pub mod WordRuns
-- The words from the right are the words.
pub mod WordsFromTheRight
