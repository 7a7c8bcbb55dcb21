-- the words of an `IndexMap` are those of a dict
pub mod Lookups
-- what a dict has after a pair was put or taken out
pub mod Puts
-- what the pairs are where some places are empty
pub mod Live
-- where the places are that are empty
pub mod Empty
-- a key that gets out of an empty place
pub mod Freed
-- a dict that gets the pairs of another in turn
pub mod Copies
-- the pair of a key by its index
pub mod Ranks
