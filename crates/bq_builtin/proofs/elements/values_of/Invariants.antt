use Rattle.std.proofs.Common.{◌≡◌, ◌++◌, length}
use Rattle.bq_builtin.proofs.elements.values_of.Given as goal

abbrev pub invariant-loop-value : goal.invariant-loop-value
invariant-loop-value l = l.values.items ++ l.elements ≡ l.initial.elements

abbrev pub decreases-loop-value : goal.decreases-loop-value
decreases-loop-value l = length l.elements
