-- lists and dicts that are being made, and arguments
pub mod Making
-- what the rules ask for, beside what a host keeps
pub mod Hosts
-- files
pub mod Files
-- modules that are reached
pub mod Callable
-- rules
pub mod Rules
-- the lines of faults
pub mod Lines
