pub mod Matching
pub mod Segment
pub mod Step
pub mod Pattern
pub mod PatternSet
pub mod Unmatched
pub mod Names
