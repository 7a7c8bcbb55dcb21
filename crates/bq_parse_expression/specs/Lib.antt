pub mod Nested
pub mod Lone
pub mod Further
