-- in which order a load is refused
pub mod Orders
-- files that load nothing
pub mod Nothing
