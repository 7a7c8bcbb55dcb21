use Rattle.std.proofs.Common.{◌≡◌, ◌∷◌, length, map}
use Rattle.bq_source.specs.Operators.{first_spelled, operator}
use Rattle.bq_source.proofs.operators.operator.Given as goal

abbrev pub invariant-loop-table : goal.invariant-loop-table
invariant-loop-table l = operator (l.first ∷ l.behind) ≡ first_spelled (map (λ k. (k.0 ∷ k.1.now, k.2)) l.table) (l.first ∷ l.behind)

abbrev pub decreases-loop-table : goal.decreases-loop-table
decreases-loop-table l = length l.table
