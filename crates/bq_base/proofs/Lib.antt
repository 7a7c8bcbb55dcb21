pub mod Choices
pub mod Joined
