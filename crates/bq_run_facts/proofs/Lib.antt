-- In reading order: what a target depends on directly, edges by names, the line of a target, and runs with and without facts.
pub mod Direct
pub mod Named
pub mod Diagnostics
pub mod Answers
