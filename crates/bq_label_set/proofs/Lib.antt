pub mod Added
pub mod Numbers
pub mod Put
pub mod Numbered
