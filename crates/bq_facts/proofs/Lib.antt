-- In reading order: texts in parts, members of filtered lists, direct dependencies, the labels that targets name, objects cut in two, lists of loads, and labels in
-- full.
pub mod Shares
pub mod Filtered
pub mod Direct
pub mod NamedLabels
pub mod Objects
pub mod Loads
pub mod Paths
-- lines, as the texts of objects
pub mod Lines
