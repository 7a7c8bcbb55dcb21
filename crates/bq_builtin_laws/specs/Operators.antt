pub mod Comparisons
pub mod Members
