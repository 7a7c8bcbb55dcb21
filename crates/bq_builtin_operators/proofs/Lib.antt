pub mod Cases
-- sequences that are joined, repeated and sliced
pub mod Sequences
-- which values unions have
pub mod Unions
-- operators between two integers
pub mod BothIntegers
-- a content that is changed as a definition says
pub mod Changes
