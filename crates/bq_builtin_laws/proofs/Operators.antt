-- opposite comparisons
pub mod Comparisons
-- what is in a list, a tuple or a dict
pub mod Members
-- slices whose step is left out
pub mod Steps
