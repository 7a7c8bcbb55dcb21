pub mod Words
pub mod Doubled
