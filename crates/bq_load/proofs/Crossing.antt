-- values, and modules whose evaluation has ended
pub mod Values
-- modules that were evaluated, and what decides their outcomes
pub mod Modules
