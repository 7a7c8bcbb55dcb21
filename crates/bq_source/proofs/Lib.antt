-- The literals: digits, and the items of a string.
pub mod Numerals
pub mod Items
pub mod Bodies
pub mod Verbatim
pub mod Values
pub mod OneLine
pub mod Cutting
pub mod LiteralLaws
pub mod Quoted
pub mod NumberLaws
-- How far runs and pieces go.
pub mod Blocks
pub mod Runs
pub mod Fitting
-- Words of another first byte or length than each keyword are no keywords.
pub mod Heads
-- Each piece is spelled as its kind says.
pub mod Spelled
-- Parts of definitions, as words that proofs name.
pub mod Cases
