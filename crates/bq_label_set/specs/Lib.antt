pub mod Labels
pub mod Laws
pub mod Numbering
