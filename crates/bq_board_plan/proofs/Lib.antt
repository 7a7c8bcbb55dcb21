-- For crates above: lemmas on lists, loads and edges; for bq_board also the counting and the edges themselves.
pub mod Lemmas
pub mod Sums
pub mod Edges
pub mod Settling
pub mod Going
-- Of this crate alone, in reading order: the topological order and its steps; the rows and the edges out of a module; rows that are copied.
pub mod Turning
pub mod Beginning
pub mod Paths
pub mod Rows
pub mod Deep
pub mod Targets
pub mod Outs
pub mod Copied
pub mod Cutting
