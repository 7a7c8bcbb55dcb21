-- actions with steps of their own, and what is made of them
pub mod Owning
-- the machine
pub mod Machine
-- walks over values and texts
pub mod Texts
pub mod Walks
-- operators
pub mod Operators
-- the rows of tables, what lists and dicts do, methods and built-in functions
pub mod Rows
pub mod Collections
pub mod Methods
pub mod Functions
