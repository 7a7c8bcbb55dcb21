pub mod Kept
pub mod Renewal
