-- what is malformed stays so
pub mod Malformed
-- as many values as a format takes
pub mod Values
-- fields without text and fields with a number
pub mod Mixed
-- percent signs that are written twice
pub mod Doubled
