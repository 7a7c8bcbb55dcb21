-- the first line of a text
pub mod FirstLines
-- the number and the path of a file that is put
pub mod Counting
-- files that are edited
pub mod Edited
-- the bytes of a file that is put
pub mod Contents
-- items
pub mod Requests
-- the commands of edits
pub mod Texts
-- the file at a path, before and after edits
pub mod Found
-- files with distinct paths
pub mod Distinct
-- what the edits between two workspaces make
pub mod Changed
-- no path has two edits
pub mod Once
-- the commands of edits are read as these edits
pub mod ReadBack
-- texts without commands
pub mod PlainTexts
