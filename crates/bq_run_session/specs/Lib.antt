pub mod Block
pub mod Answer
pub mod Session
pub mod State
pub mod Steps
pub mod Outcome
