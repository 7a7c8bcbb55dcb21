-- the arguments so far, with those that are left, and then with no arguments
use Rattle.std.proofs.Common.{◌≡◌, ◌++◌, ◌-◌, length, map, replicate, None, Some}
use Rattle.bq_builtin_machine.specs.Placed.{padded}
use Rattle.bq_builtin_machine.proofs.binding.padded.Given as goal

abbrev pub invariant-loop-value : goal.invariant-loop-value
invariant-loop-value l = l.values.items ++ map Some l.value-iterator.rest.items ≡ map Some l.fn.given.items

abbrev pub invariant-loop-values : goal.invariant-loop-values
invariant-loop-values l = l.values.items ++ replicate (l.count - length l.values.items) None ≡ padded l.count l.fn.given.items

abbrev pub decreases-loop-values : goal.decreases-loop-values
decreases-loop-values l = l.count - length l.values.items
