-- what was pushed, with what is left
use Rattle.std.proofs.Common.{◌≡◌, ◌++◌, length}
use Rattle.bq_builtin_methods.proofs.list.push_all.Given as goal

abbrev pub invariant-loop-element : goal.invariant-loop-element
invariant-loop-element l = l.values.items ++ l.elements ≡ l.initial.values.items ++ l.initial.elements

abbrev pub decreases-loop-element : goal.decreases-loop-element
decreases-loop-element l = length l.elements
