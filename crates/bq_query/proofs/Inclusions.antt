-- The laws of the definitions.
use Rattle.std.proofs.Common.{◌≡◌, ℕ, ◌<◌, Bool, List, [], ◌∷◌, ◌++◌, length, get_or, refl, sym, subst}
use Rattle.std.specs.List.{All}
use Rattle.std.specs.List.Sorted.{IsStrictlyIncreasing}
use Rattle.std.proofs.lemmas.Map.Keys.{Less-from_sorted, below_from_sorted, sorted_from_strictly_increasing}
use Rattle.bq_query_graph.specs.Marks.{Marked}
use Rattle.bq_package_target.specs.declared.target.Target.{Target}
use Rattle.bq_query_function.specs.Order.{by_text, AreInOrder}
use Rattle.bq_query_target_graph.specs.Graph.{GraphParts}
use Rattle.bq_query_check.specs.Formula.{Formula}
use Rattle.bq_query.specs.Stands.{Bound}
use Rattle.bq_query.specs.Laws.{LieWithin, Keep, IsItself, LabelsAscend}

pub lie_within : (w : GraphParts) (a b : Formula) (n : ℕ) (bound : Bound) (y : ℕ) → LieWithin w a b n bound y
lie_within w a b n bound y = record {
  argument = λ h. record { from = y; starts = h; through = []; path = refl };
  near = λ e. e.0;
  dependents = λ e. e.inside.0;
  near_dependents = λ e. e.0;
  paths = λ e. e.reached;
}

pub keep : (w : GraphParts) (a : Formula) (name pattern : List ℕ) (bound : Bound) (y : ℕ) → Keep w a name pattern bound y
keep w a name pattern bound y = record { kind = λ h. h.0; filter = λ h. h.0; attr = λ h. h.0 }

-- what is bound last is there
last_set : (bound : Bound) (set : List Bool) → get_or (bound ++ set ∷ []) (length bound) [] ≡ set
last_set [] set = refl
last_set (s ∷ ss) set = last_set ss set

pub itself : (w : GraphParts) (a : Formula) (bound : Bound) → IsItself w a bound
itself w a bound marks s y = (
  λ h. (h.1.1 y).0 (subst (λ (set : List Bool). Marked set y) (last_set bound h.0) h.2),
  λ h. (marks, s, subst (λ (set : List Bool). Marked set y) (sym (last_set bound marks)) ((s.1 y).1 h)),
)

pub ascend : (targets : List Target) (answer : List ℕ) → AreInOrder targets → IsStrictlyIncreasing answer → All (λ at. at < length targets) answer → LabelsAscend targets answer
ascend targets answer order up within i j d before inside =
    Less-from_sorted by_text targets (get_or answer i 0) (get_or answer j 0) d order (below_from_sorted answer i j 0 (sorted_from_strictly_increasing answer up) before inside) (within j 0 inside)
