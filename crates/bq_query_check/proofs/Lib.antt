-- what must hold, one after another
pub mod Needs
-- arguments, one after another
pub mod Left
-- what a function takes, it says something of
pub mod Calls
-- the formulas of checked queries
pub mod Says
-- the further operands of a chain
pub mod Steps
-- what is read of a text
pub mod Texts
-- variables are bound by the lets around them
pub mod Closed
