-- A module with a value has one by the values of its loads.
use Rattle.std.proofs.Common.{◌≡◌, ◌∙◌, ℕ, inl, inr, Bool, true, false, cond, List, [], ◌∷◌, Result, Ok, Err, Contains, refl, sym, ap, subst, arith}
use Rattle.bq_label.proofs.Orders.{at_head, in_tail}
use Rattle.bq_board.specs.Counts.{Has}
use Rattle.bq_board.specs.Cycles.{is_cyclic, starts_path}
use Rattle.bq_board.specs.Depth.{max_load_depth, is_too_deep}
use Rattle.bq_board.specs.Graph.{Loads, row}
use Rattle.bq_board.proofs.Lemmas.{cons_has}
use Rattle.bq_load_order.specs.Outcome.{first, with_load_value, load_values, own, evaluated, by_loads, outcome}
use Rattle.bq_load_order.specs.declared.outcome.Outcome.{Outcome}
use Rattle.bq_load_order.specs.declared.outcome.Outcome.TheVariants as o
use Rattle.bq_load_order.proofs.Solution.{outcome_is}

module _ {V : Type 0} where
  abbrev some_values : List V → Result (List V) ℕ
  some_values vs = Ok vs

  same_values : (vs ws : List V) → some_values vs ≡ some_values ws → vs ≡ ws
  same_values vs ws e = cc

module _ {V F : Type 0} where
  abbrev a_value : V → Outcome V F
  a_value v = o.Loaded v

  same_value : (v w : V) → a_value v ≡ a_value w → v ≡ w
  same_value v w e = cc

  -- ---- the values of loads

  module _ (at : ℕ → Outcome V F) where
    pub record HasValue (vs : List V) (k : ℕ) : Type 0 where
      pub value : V
      pub has : at k ≡ o.Loaded value
      pub among : Contains vs value

    abbrev AllHave : List ℕ → List V → Type 0
    AllHave xs vs = (k : ℕ) → Has xs k → HasValue vs k

    one_more : (x : ℕ) (xs : List ℕ) (vs : List V) (one : Outcome V F) → at x ≡ one → (r : Result (List V) ℕ) → ((ws : List V) → r ≡ Ok ws → AllHave xs ws) → with_load_value one x r ≡ Ok vs → AllHave (x ∷ xs) vs
    one_more x xs vs (o.Loaded v) is (Ok ws) rest e k h =
        let whole : v ∷ ws ≡ vs = same_values (v ∷ ws) vs e in
        elim (cons_has x xs k h) [
          | inl same ↦ record { value = v; has = ap at (sym same) ∙ is; among = subst (λ z. Contains z v) whole (at_head v ws) }
          | inr later ↦ let r = rest ws refl k later in record { value = r.value; has = r.has; among = subst (λ z. Contains z r.value) whole (in_tail v ws r.value r.among) }
        ]
    one_more x xs vs (o.Loaded v) is (Err l) rest e k h = absurd (cc)
    one_more x xs vs (o.Faulty why) is r rest e k h = absurd (cc)
    one_more x xs vs (o.Cyclic l) is r rest e k h = absurd (cc)
    one_more x xs vs (o.TooDeep l) is r rest e k h = absurd (cc)
    one_more x xs vs (o.LoadFailed l) is r rest e k h = absurd (cc)

    pub all_have : (xs : List ℕ) (vs : List V) → load_values at xs ≡ Ok vs → AllHave xs vs
    all_have [] vs e k h = absurd (omega (arith, h))
    all_have (x ∷ xs) vs e k h = one_more x xs vs (at x) refl (load_values at xs) (all_have xs) e k h

-- ---- a value

module _ {V F : Type 0} (means : ℕ → List V → Result V F) (p : Loads) (k : ℕ) (v : V) where
  pub record IsEvaluated : Type 0 where
    pub loaded : List V
    pub are : load_values (outcome means p) (row p k) ≡ Ok loaded
    pub gives : means k loaded ≡ Ok v

  by_result : (vs : List V) → load_values (outcome means p) (row p k) ≡ Ok vs → (r : Result V F) → means k vs ≡ r → own r ≡ o.Loaded v → IsEvaluated
  by_result vs are (Ok w) e is = record { loaded = vs; are = are; gives = e ∙ ap (λ (z : V). Ok z) (same_value w v is) }
  by_result vs are (Err why) e is = absurd (cc)

  by_values : (r : Result (List V) ℕ) → load_values (outcome means p) (row p k) ≡ r → evaluated (means k) r ≡ o.Loaded v → IsEvaluated
  by_values (Ok vs) e is = by_result vs e (means k vs) refl is
  by_values (Err l) e is = absurd (cc)

  by_cases : (cyclic deep : Bool) (c d : ℕ) → cond cyclic (o.Cyclic c) (cond deep (o.TooDeep d) (evaluated (means k) (load_values (outcome means p) (row p k)))) ≡ o.Loaded v → IsEvaluated
  by_cases true deep c d is = absurd (cc)
  by_cases false true c d is = absurd (cc)
  by_cases false false c d is = by_values (load_values (outcome means p) (row p k)) refl is

  pub evaluated_by : outcome means p k ≡ o.Loaded v → IsEvaluated
  unfolding by_loads
  evaluated_by is =
      by_cases (is_cyclic p k) (is_too_deep p k) (first (is_cyclic p) (row p k)) (first (starts_path p max_load_depth) (row p k)) (sym (outcome_is means p k) ∙ is)
