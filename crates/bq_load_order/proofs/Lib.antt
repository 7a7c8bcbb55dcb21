-- The recursion has one solution; its laws in plain words; what an outcome depends on.
pub mod Solution
pub mod Cases
pub mod Reached
-- Also for crates above: the values of loads, one after another; how slots fill in load order, and what they mean.
pub mod Values
pub mod Filled
-- the shares that a module imports
mod ImportedValues
-- why a module keeps its outcome
pub mod Keeping
-- which modules are unchanged
pub mod Unchanged
