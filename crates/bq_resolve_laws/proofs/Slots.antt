-- `Opened`: the blocks of a function that were opened so far, and slots among them. `Lists`: walks that list the slots of what they make.
-- `Steps`: the slots of a made node. `Names`, `Expressions`, `Statements`: the lists of each rule. `Shared`: slots that are shared.
-- `Files`: the functions of a file.
pub mod Opened
pub mod Lists
pub mod Steps
pub mod Names
pub mod Expressions
pub mod Statements
pub mod Shared
pub mod Files
