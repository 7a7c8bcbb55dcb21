-- names beside attributes, and what is looked up in both
pub mod NamedAttributes
-- lists of labels that differ in length
pub mod LabelLengths
-- how the weights of a list change
pub mod Weights
-- lists of values that are compared as keys
pub mod Keyed
-- how many elements a range has
pub mod Elements
