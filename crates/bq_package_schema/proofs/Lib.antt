pub mod Cases
pub mod Lasts
pub mod Lines
pub mod Differ
pub mod StandardRules
