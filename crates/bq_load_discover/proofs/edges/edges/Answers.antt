use Rattle.std.proofs.Common.{sym, subst}
use Rattle.bq_board_plan.specs.Graph.{Loads, Known}
use Rattle.bq_load_discover.proofs.Rows.{rows_known}
use Rattle.bq_load_discover.proofs.edges.edges.Goals as goal

pub of_known-requires-clause-known : goal.of_known-requires-clause-known
of_known-requires-clause-known c = subst (λ (p : Loads). Known p) (sym c.in_ok-rows.ensures) (rows_known c.args.labels.now c.args.modules.now c.requires.wide)
