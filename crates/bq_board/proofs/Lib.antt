-- For crates above: the conditions of the calls that follow, and lemmas on lists, loads and edges.
pub mod Conditions
pub use Rattle.bq_board_plan.proofs.Lemmas
pub use Rattle.bq_board_plan.proofs.Edges
pub use Rattle.bq_board_plan.proofs.Going
-- Of this crate alone. Each step keeps the rule; what a claim has seen; the slot that was taken last; the laws follow from the rule.
pub mod Keeps
pub mod Looking
pub mod Hands
pub mod Seating
pub mod FromRule
