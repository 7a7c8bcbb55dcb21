-- `Fine`: faults that name lines. `Parts`: what is known of each part. `Expressions`, `Statements`: it is known of a part where it is known of
-- what the part writes; so it is of all that is written (`Written`), and of files (`Files`).
pub mod Fine
pub mod Parts
pub mod Expressions
pub mod Statements
pub mod Written
pub mod Files
