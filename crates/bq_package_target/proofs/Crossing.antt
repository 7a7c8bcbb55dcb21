-- labels, and what rules say of their attributes
pub mod Classes
-- the targets of packages
pub mod Targets
