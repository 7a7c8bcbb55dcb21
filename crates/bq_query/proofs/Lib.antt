-- sets in other words
pub mod Same
-- the sets of formulas
pub mod Formulas
-- faults of parts
pub mod Firsts
-- formulas whose variables have sets
pub mod Bound
-- the laws of the definitions
pub mod Inclusions
-- the members of a set in order
pub mod Members
-- what answering a query ensures
pub mod Answering
