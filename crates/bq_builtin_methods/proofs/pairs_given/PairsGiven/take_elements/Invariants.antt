-- the elements that are left decide
use Rattle.std.proofs.Common.{◌≡◌, length}
use Rattle.bq_builtin_methods.specs.PairsGiven.{take_elements}
use Rattle.bq_builtin_methods.proofs.pairs_given.PairsGiven.take_elements.Given as goal

abbrev pub invariant-loop-element : goal.invariant-loop-element
invariant-loop-element l = take_elements l.store l.elements l.self ≡ take_elements l.store l.initial.elements l.fn.self

abbrev pub decreases-loop-element : goal.decreases-loop-element
decreases-loop-element l = length l.elements
