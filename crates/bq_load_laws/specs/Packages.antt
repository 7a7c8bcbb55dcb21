-- which package a module has
pub mod Packages
-- where its targets are declared
pub mod Declared
-- what BUILD files keep is seen by nobody
pub mod Kept
