-- For crates above: how often a number occurs in a list, paths of loads, and where the edges into a module begin.
pub use Rattle.bq_board_plan.proofs.Sums.{times_same, times_other, Has_more, Has_snoc}
pub use Rattle.bq_board_plan.proofs.Settling.{Has-get_or, at_zero}
pub use Rattle.bq_board_plan.proofs.Turning.{zero_from}
pub use Rattle.bq_board_plan.proofs.Paths.{bool_cases, or_none, head_has, tail_has, cons_has, at_split, any_has, any_none, any_some, none_has, longer, loads_acyclic}
pub use Rattle.bq_board_plan.proofs.Deep.{cyclic_not_deep, deep_by_path, deep_both, loads_not_cyclic}
pub use Rattle.bq_board_plan.proofs.Edges.{start_next, into_once}
