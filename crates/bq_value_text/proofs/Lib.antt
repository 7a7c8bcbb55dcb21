-- what is written in parts
pub mod Pages
-- a tuple and a cell, where steps and levels are left
pub mod Steps
-- the texts of strings and of plain values
pub mod Plain
-- the walk of a text takes a number of steps of its own
pub mod Counting
-- the text of a key in one piece
pub mod KeyTexts
-- keys with one text are one key
pub mod Apart
-- what is written has the form of the value's text
pub mod Forms
-- a step for each level, and at most 64
pub mod Deep
