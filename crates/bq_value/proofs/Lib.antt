-- how many elements a range has
pub use Rattle.bq_value_datum.proofs.Elements
-- the words of an `IndexMap` are those of a dict
pub use Rattle.bq_value_content.proofs.Lookups
-- what a dict has after a pair was put or taken out
pub use Rattle.bq_value_content.proofs.Puts
-- a list of modules that is split at a number
pub mod Cases
pub mod Splits
-- a trie of modules and the list of them
pub mod Tries
-- what cells hold after a module was frozen or loaded, or a cell was changed
pub mod Freezes
-- which names rules have
pub mod Naming
-- a value that the walk goes through may be a key, and one that may be a key is never F45
pub mod Keys
-- lists one of which ends where the other goes on
pub mod Prefixes
-- ranges with the same elements
pub mod Ranges
-- what an answer of `==` says
pub mod Alike
-- dicts with distinct keys
pub mod Keyed
-- `==` is an equivalence
pub mod Equivalence
-- what an answer of the order says, and that it is strict
pub mod Lesser
-- the laws, by answers alone
pub mod Orders
-- a walk takes a number of steps of its own
pub mod Counting
-- and so does the walk of a key
pub mod KeySteps
-- ranges are equal by their elements, functions by their `def`
pub mod EqualRanges
-- rules are equal by their cells, attributes by what they say
pub mod Identity
-- a step for each level, and at most 64
pub mod Deep
