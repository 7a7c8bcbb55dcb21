-- what is left gives, after the columns so far, what all give
use Rattle.std.proofs.Common.{◌≡◌, ◌++◌, drop, Ok}
use Rattle.bq_builtin_machine.specs.Answer.{and_then}
use Rattle.bq_builtin.specs.Sequences.{elements_of_each}
use Rattle.bq_builtin.proofs.zip.elements_of_each.Given as goal

abbrev pub invariant-loop-value : goal.invariant-loop-value
invariant-loop-value l = elements_of_each l.store l.values ≡ and_then (elements_of_each l.store (drop l.value-index l.values)) (λ xss. Ok (l.columns.items ++ xss))
