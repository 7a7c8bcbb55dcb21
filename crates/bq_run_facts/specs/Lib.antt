pub mod Lines
pub mod Facts
pub mod Laws
