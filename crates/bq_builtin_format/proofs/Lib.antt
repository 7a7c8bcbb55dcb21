pub mod Cases
-- One conversion of `%` after another.
pub mod Filling
-- One piece of a format after another.
pub mod Cutting
-- The number of a field, a digit at a time.
pub mod Digits
-- The places of names.
pub mod Places
-- One field of a format after another.
pub mod Fields
-- Formats in words, and formats without fields.
pub mod Fieldless
