pub mod Files
pub mod Callable
