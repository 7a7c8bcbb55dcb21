-- What a worker's calls leave: the values of loads, one edge after another; the outcome that they decide; what it brought.
pub mod Imports
pub mod Finding
pub mod Bringing
mod Promises
