pub mod CallPlace
pub mod Orders
pub mod Given
