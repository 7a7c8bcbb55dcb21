pub mod Page
pub mod Leaf
pub mod Shown
pub mod Laws
