-- The outcome of a module that was won, by what its edges brought.
use Rattle.std.proofs.Common.{◌≡◌, ℕ, true, false, List, Result, sym, ap, ◌∙◌}
use Rattle.bq_board.specs.Graph.{Loads, row}
use Rattle.bq_board.specs.Cycles.{is_cyclic}
use Rattle.bq_board.specs.Depth.{is_too_deep}
use Rattle.bq_board.specs.Cut.{IsCut}
use Rattle.bq_load_order.specs.Outcome.{first, load_values, evaluated, outcome}
use Rattle.bq_load_order.specs.declared.outcome.Outcome.{Outcome}
use Rattle.bq_load_order.specs.declared.outcome.Outcome.TheVariants.{Cyclic}
use Rattle.bq_load_order.proofs.Solution.{cyclic_is, evaluated_is, outcome_is}

module _ {V F : Type 0} (means : ℕ → List V → Result V F) (p : Loads) (m : ℕ) where
  pub found_cyclic : is_cyclic p m ≡ true → (l : ℕ) (xs : List ℕ) → l ≡ first (is_cyclic p) xs → xs ≡ row p m → Cyclic l ≡ outcome means p m
  found_cyclic e l xs is same = ap Cyclic (is ∙ ap (first (is_cyclic p)) same) ∙ sym (outcome_is means p m ∙ cyclic_is means p (outcome means p) m e)

  pub found_evaluated : is_cyclic p m ≡ false → is_too_deep p m ≡ false → (q : Loads) → IsCut p q → (r : Result (List V) ℕ) → r ≡ load_values (outcome means p) (row q m) → (o : Outcome V F) → o ≡ evaluated (means m) r → o ≡ outcome means p m
  found_evaluated e d q cut r is o by = by ∙ ap (evaluated (means m)) (is ∙ ap (load_values (outcome means p)) ((cut.each m).rest e d)) ∙ sym (outcome_is means p m ∙ evaluated_is means p (outcome means p) m e d)
