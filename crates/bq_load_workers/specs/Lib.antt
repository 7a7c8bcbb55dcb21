pub mod Workers
pub mod Work
pub mod Brought
pub mod Closing
