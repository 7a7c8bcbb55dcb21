pub mod ListCalls
pub mod DictCalls
pub mod Orders
pub mod Laws
pub mod Looks
