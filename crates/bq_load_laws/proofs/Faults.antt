-- what is read of a file is what it resolves to, or a fault of one of its parts
pub mod Texts
-- so is the outcome of each module
pub mod Outcomes
-- and each line of a workspace that is loaded
pub mod Lines
-- none of which is line 0
pub mod Numbered
