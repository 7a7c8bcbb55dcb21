use Rattle.std.proofs.Common.{◌≡◌, ◌+◌, ◌-◌, ◌≤◌, length, drop}
use Rattle.std.specs.List.{prefix_len}
use Rattle.bq_builtin_strings.specs.Class.{has}
use Rattle.bq_builtin_strings.proofs.class.ByteClass.run_len.Given as goal

abbrev pub invariant-loop-at : goal.invariant-loop-at
invariant-loop-at l = (l.at ≤ length l.text) × (l.at + prefix_len (has l.self) (drop l.at l.text) ≡ prefix_len (has l.self) l.text)

abbrev pub decreases-loop-at : goal.decreases-loop-at
decreases-loop-at l = length l.text - l.at
