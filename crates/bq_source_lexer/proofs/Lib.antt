-- Each step takes a piece of the text, so that the pieces come to an end.
pub mod Keeping
pub mod Reached
-- A text has one reading.
pub mod Unique
-- Which kinds of tokens the rules make.
pub mod LexemeKinds
-- The tokens lie in the text.
pub mod Lying
-- The widths that are kept are those that are open.
pub mod Widths
-- The readings are those that `Layout` says.
pub mod LaidOut
-- Frequent pieces are known by their first byte.
pub mod FirstBytes
-- Parts of definitions, as words that proofs name.
pub mod Cases
-- What the words say of a piece is what the definition finds there.
pub mod Pieces
-- Brackets, indents and outdents are determined.
pub mod Places
-- From each place the words lead on in one way, so a text has one reading in words.
pub mod OneWay
-- The words and the definition give the same readings.
pub mod Converse
-- String literals and their faults, in words of their items.
pub mod Literals
-- The tables are those that the specification lists.
pub mod Rows
pub mod WordKinds
pub mod MarkKinds
pub mod Alone
pub mod Escapes
pub mod WordBytes
