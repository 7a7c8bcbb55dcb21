pub mod Reading
pub mod Tokens
pub mod Lexing
pub mod Indentation
pub mod Layout
pub mod InWords
pub mod Strings
pub mod Tables
