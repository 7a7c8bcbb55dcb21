pub mod Mixing
pub mod Noting
