pub mod Walks
pub mod Rules
pub mod Comprehensions
pub mod Members
pub mod Inner
pub mod Parameters
