-- one transfer after another, for what is left of a text
pub mod Transfers
-- What is left out of a file that is too long.
pub mod Cuts
-- How many bytes the files of a workspace have.
pub mod Bytes
