-- the faults of a call of a rule, and of its arguments
pub mod Orders
-- a call gives what has to be given
pub mod Given
