pub mod Endings
pub mod Within
pub mod Cuts
pub mod Readings
pub mod Unique
pub mod Spelled
-- what a text names as a label
pub mod Names
-- which words are patterns over all that is beneath a package
pub mod Patterns
-- words that begin as patterns are patterns where they are labels
pub mod Readable
-- words that are read, one after another
pub mod Words
