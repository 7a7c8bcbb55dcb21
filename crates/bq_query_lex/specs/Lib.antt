pub mod QueryError
pub mod Lexis
pub mod Reading
pub mod Laws
pub mod TargetPatterns
pub mod PatternReading
pub mod DotPatterns
