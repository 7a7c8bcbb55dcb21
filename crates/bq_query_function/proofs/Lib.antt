-- how texts are ordered, and which of them begin alike
pub mod Cuts
-- targets in the order of their labels, and places among them
pub mod Ranks
-- tests of targets, as marks
pub mod Tests
-- what words name, in words of packages
pub mod Packages
-- the targets of packages, and those beneath them
pub mod Named
-- packages and targets that are found, or not
pub mod Found
-- the targets to which those of a set are related, one after another
pub mod RelatedSets
-- sets in other words, and over graphs of the same pairs
pub mod Within
-- calls of the rows' functions have one set or two
pub mod Rows
-- no mark is the empty set
pub mod Empty
