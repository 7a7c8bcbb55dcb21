pub mod Argument
pub mod Searches
pub mod Affixes
pub mod Strips
pub mod Cuts
pub mod Longer
pub mod Format
