-- Whether one of some strings is at an end.
pub mod OneOf
-- How long a string is in which a text was replaced.
pub mod Lengths
