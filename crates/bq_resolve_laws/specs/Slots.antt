pub mod Uses
pub mod Slots
pub mod Sharing
