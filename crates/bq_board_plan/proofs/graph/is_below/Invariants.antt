use Rattle.std.proofs.Common.{ℕ, ◌<◌, take}
use Rattle.bq_board_plan.specs.Counts.{Has}
use Rattle.bq_board_plan.proofs.graph.is_below.Given as goal

abbrev pub invariant-loop-l : goal.invariant-loop-l
invariant-loop-l l = (x : ℕ) → Has (take l.l-index l.loaded) x → x < l.bound
