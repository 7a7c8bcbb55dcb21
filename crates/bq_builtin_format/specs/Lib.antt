pub mod Percent
pub mod Piece
pub mod Argument
pub mod Method
