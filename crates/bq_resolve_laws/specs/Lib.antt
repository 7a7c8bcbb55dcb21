pub mod Binds
pub mod FrameSizes
pub mod Violations
pub mod Resolution
pub mod Files
pub mod Loads
pub mod NameLaws
-- slots of functions
pub mod Slots
-- the depth of trees
pub mod Depths
