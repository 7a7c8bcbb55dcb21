-- built-in functions
pub mod Functions
-- operators
pub mod Operators
-- lists and dicts that are changed, and what is looked up in them
pub mod Collections
-- formats
pub mod Formats
-- methods of strings
pub mod StringMethods
-- steps
pub mod Steps
