-- sets over graphs with the same pairs
pub mod SamePairs
-- lists of numbers in order, with the same members
pub mod OneList
-- the report that a session and a reply are parts of
pub mod Parts
-- a workspace and a query have one report
pub mod OneReport
