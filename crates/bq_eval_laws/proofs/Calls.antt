-- in which order a function becomes active
pub mod Entering
-- arguments that don't fit are refused
pub mod Misfits
-- arguments that are refused don't fit
pub mod Refused
-- what parameters begin with
pub mod Parameters
