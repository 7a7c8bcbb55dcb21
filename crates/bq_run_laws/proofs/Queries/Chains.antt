-- Operators in a row.
use Rattle.std.proofs.Common.{◌≡◌, refl, List, [], ◌∷◌, ◌++◌}
use Rattle.bq_query_check.specs.Formula.{Formula, Step, chained, combined}

pub last_is_done_last : (x : Formula) (steps : List Step) (last : Step) → chained x (steps ++ last ∷ []) ≡ combined last.operator (chained x steps) last.formula
last_is_done_last x [] last = refl
last_is_done_last x (s ∷ ss) last = last_is_done_last (combined s.operator x s.formula) ss last
