pub mod Paths
pub mod Label
pub mod Reading
pub mod Order
pub mod Workspace
pub mod Packages
