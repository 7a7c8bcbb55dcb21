-- actions of a machine, beside what a host keeps
pub mod Lifting
-- comparisons of integers
pub mod IntegerComparison
-- augmented assignments of integers
pub mod IntegerAugmentation
-- what a file ends in
pub mod Ends
-- files as modules of programs
pub mod Programs
-- the first state of a run
pub mod Starts
