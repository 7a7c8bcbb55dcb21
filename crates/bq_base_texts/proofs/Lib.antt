pub mod LongStrings
-- In reading order:
pub mod Positions
pub mod Keys
pub mod PlacePut
pub mod NameLookups
pub mod LineOrder
