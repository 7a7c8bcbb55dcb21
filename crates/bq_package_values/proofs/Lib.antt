-- In reading order: what is written of the first bytes of a string, what a reader finds in it, and some strings as Python writes them.
pub mod Escapes
pub mod Fronts
pub mod Points
pub mod Units
pub mod ReadsBack
pub mod AsPython
pub mod OneReading
pub mod ValuesReadBack
pub mod JsonTexts
pub mod ValueCases
-- what steps that succeed say of each of them, and of the last one
pub mod Steps
-- names without a slash cross into another package alike
pub mod Crossings
-- plain names are labels of the package, and read as them
pub mod PlainNames
-- labels that are read in a package, and the files that a rule makes, are of the package
pub mod Own
-- an attribute of each type takes the values that the words of `Taken` have, and refuses the others
pub mod Turns
pub mod Standing
pub mod Taken
-- a list of plain names is, as a list of labels, that of the package's own labels of these names
pub mod PlainLists
pub mod BuiltInCases
-- built-in functions and their names
pub mod BuiltInNames
