pub mod Misfits
pub mod Parameters
pub mod Orders
pub mod Entered
