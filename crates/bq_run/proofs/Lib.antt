pub mod Lines
pub mod Leads
pub mod Reading
pub mod Writing
pub mod Bundles
pub mod Deeds
pub mod Loads
