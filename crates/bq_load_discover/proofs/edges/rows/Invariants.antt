use Rattle.std.proofs.Common.{◌≡◌, take}
use Rattle.bq_board_plan.specs.Graph.{lists}
use Rattle.bq_load_discover.specs.Edges.{rows_of}
use Rattle.bq_load_discover.proofs.edges.rows.Given as goal

abbrev pub invariant-loop-loader : goal.invariant-loop-loader
invariant-loop-loader l = lists l.rows.items ≡ rows_of l.numbers (take l.loader-index l.modules)
