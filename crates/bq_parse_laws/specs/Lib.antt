pub mod Pieces
pub mod StatementLaws
pub mod Parts
pub mod Writes
pub mod Depth
pub mod LeftOut
