pub mod Token
pub mod Lexis
pub mod Operators
pub mod Number
pub mod StringLiteral
pub mod PlainString
pub mod Piece
pub mod Spelling
