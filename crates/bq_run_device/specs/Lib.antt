pub mod Device
-- How much a walk keeps.
pub mod Walk
