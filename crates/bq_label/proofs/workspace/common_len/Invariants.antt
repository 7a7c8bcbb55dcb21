use Rattle.std.proofs.Common.{◌≡◌, ◌+◌, ◌-◌, length, drop}
use Rattle.bq_label.specs.Paths.{common_len}
use Rattle.bq_label.proofs.workspace.common_len.Given as goal

abbrev pub invariant-loop-at : goal.invariant-loop-at
invariant-loop-at l = common_len l.a l.b ≡ l.at + common_len (drop l.at l.a) (drop l.at l.b)

abbrev pub decreases-loop-at : goal.decreases-loop-at
decreases-loop-at l = length l.a - l.at
