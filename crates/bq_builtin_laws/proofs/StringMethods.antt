-- tuples of affixes
pub mod Affixes
-- the parts of a partition
pub mod Partitions
-- the parts of a text that is split at space
pub mod Words
-- affixes that are removed
pub mod Removing
-- strings whose ends are stripped
pub mod Stripping
-- places in a region of a string
pub mod Regions
