pub mod Ending
pub mod Error
pub mod Report
pub mod Deeds
pub mod Status
