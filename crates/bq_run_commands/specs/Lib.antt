pub mod Queries
pub mod Commands
pub mod Edits
pub mod Items
pub mod Reading
pub mod Changes
pub mod Laws
