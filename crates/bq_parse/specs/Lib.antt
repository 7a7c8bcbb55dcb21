pub mod Makes
pub mod Inner
pub mod Pieces
pub mod LeftOut
pub mod Nested
pub mod Answers
