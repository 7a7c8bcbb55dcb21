-- Why a module keeps its outcome.
use Rattle.std.proofs.Common.{◌≡◌, ℕ, zero, suc, ◌<◌, inl, inr, arith, ◌&&◌, Bool, true, false, List, [], ◌∷◌, length, map, set, get_or, Option, Some, None, Result, Ok, Err, sym, refl, ap, ◌∙◌, eqb-true, get_or-set_same, get_or-set_other, subst}
use mathlib.Core.Logic.{dite}
use native.Mathlib.Decide.{ℕ_discrete}
use Rattle.std.specs.declared.sync.Arc.{Arc}
use Rattle.std.specs.declared.alloc.Global.{Global}
use Rattle.std.proofs.lemmas.List.{get_or-map}
use Rattle.bq_board_plan.specs.Graph.{Loads, row}
use Rattle.bq_board_plan.specs.Counts.{Has}
use Rattle.bq_board_plan.specs.Cycles.{is_cyclic, PathTo}
use Rattle.bq_board_plan.specs.Depth.{is_too_deep}
use Rattle.bq_board_plan.proofs.Lemmas.{Has-get_or, cons_has}
use Rattle.bq_load_order.specs.Outcome.{with_load_value, load_values, evaluated, outcome}
use Rattle.bq_load_order.specs.declared.outcome.Outcome.{Outcome}
use Rattle.bq_load_order.specs.declared.outcome.Outcome.TheVariants.{Loaded, Faulty, Cyclic, TooDeep, LoadFailed}
use Rattle.bq_load_order.proofs.Solution.{evaluated_is, outcome_is}
use Rattle.bq_load_order.specs.SharedOutcomes.{shown}
use Rattle.bq_load_order.specs.Slots.{IsLoadOrder}
use Rattle.bq_load_order.specs.Again.{number_at, had, IsHad, ReachesHad, AreUnchanged, AreKept, Keeps, is_number, are_same}

both : (a b : Bool) → a && b ≡ true → (a ≡ true) × (b ≡ true)
both true true e = (refl, refl)
both true false e = absurd (cc)
both false b e = absurd (cc)

number_is : (n : Option ℕ) (k : ℕ) → is_number n k ≡ true → n ≡ Some k
number_is None k e = absurd (cc)
number_is (Some j) k e = ap Some (eqb-true j k e)

module _ {V F : Type 0} where
  -- values of loads are those of the first and of the others
  pub split : (o : Outcome V F) (x : ℕ) (r : Result (List V) ℕ) (vs : List V) → with_load_value o x r ≡ Ok vs → (v : V) × (ws : List V) × (o ≡ Loaded v) × (r ≡ Ok ws) × (v ∷ ws ≡ vs)
  split (Loaded v) x (Ok ws) vs e = let inner : v ∷ ws ≡ vs = cc in (v, ws, refl, refl, inner)
  split (Loaded v) x (Err l) vs e = absurd (cc)
  split (Faulty f) x r vs e = absurd (cc)
  split (Cyclic l) x r vs e = absurd (cc)
  split (TooDeep l) x r vs e = absurd (cc)
  split (LoadFailed l) x r vs e = absurd (cc)

  module _ (before after : ℕ → Outcome V F) (p : Loads) (was : List (Option ℕ)) where
    -- one more module keeps its outcome
    pub keep_more : (numbers : List (Option ℕ)) (m k : ℕ) → AreKept before after p was numbers → m < length numbers → after m ≡ before k → ReachesHad p was k → AreKept before after p was (set numbers m (Some k))
    keep_more numbers m k kept h is reaches j i e = dite (ℕ_discrete j m)
        (λ same.
        let here : number_at (set numbers m (Some k)) m ≡ Some k = get_or-set_same numbers m (Some k) None h in
        let now : Some k ≡ Some i = sym here ∙ ap (number_at (set numbers m (Some k))) (sym same) ∙ e in
        let which : k ≡ i = cc in
        (ap after same ∙ is ∙ ap before which, subst (λ (n : ℕ). ReachesHad p was n) which reaches))
        (λ ne. kept j i (sym (get_or-set_other numbers m j (Some k) None ne) ∙ e))

    pub keep_none : (numbers : List (Option ℕ)) → ((m : ℕ) → number_at numbers m ≡ None) → AreKept before after p was numbers
    keep_none numbers none_there m k e = let no : None ≡ Some k = sym (none_there m) ∙ e in absurd (cc)

module _ {V F : Type 0} (before : ℕ → Outcome V F) (p : Loads) (means : ℕ → List V → Result V F) (q : Loads) (was kept : List (Option ℕ)) (right : AreKept before (outcome means q) p was kept) where
  -- the same loads have the same values
  same_values : (ls ks : List ℕ) (vs : List V) → are_same kept ls ks ≡ true → load_values before ks ≡ Ok vs → load_values (outcome means q) ls ≡ Ok vs
  unfolding are_same
  same_values [] [] vs e is = is
  same_values [] (k ∷ ks) vs e is = absurd (cc)
  same_values (l ∷ ls) [] vs e is = absurd (cc)
  same_values (l ∷ ls) (k ∷ ks) vs e is =
      let parts = both (is_number (number_at kept l) k) (are_same kept ls ks) e in
      let s = split (before k) k (load_values before ks) vs is in
      let head : outcome means q l ≡ Loaded s.0 = (right l k (number_is (number_at kept l) k parts.0)).0 ∙ s.2 in
      let rest : load_values (outcome means q) ls ≡ Ok s.1 = same_values ls ks s.1 parts.1 s.3 in
      (λ i. with_load_value (head i) l (rest i)) ∙ ap Ok s.4

  -- each of the loads that it had is the number of a module that is kept
  same_loads : (ls ks : List ℕ) → are_same kept ls ks ≡ true → (k : ℕ) → Has ks k → IsHad kept k
  unfolding are_same
  same_loads ls [] e k h = absurd (omega (arith, h))
  same_loads [] (n ∷ ks) e k h = absurd (cc)
  same_loads (l ∷ ls) (n ∷ ks) e k h =
      let parts = both (is_number (number_at kept l) n) (are_same kept ls ks) e in
      elim (cons_has n ks k h) [
        | inl same ↦ (l, number_is (number_at kept l) n parts.0 ∙ ap Some same)
        | inr later ↦ same_loads ls ks parts.1 k later
      ]

  module _ (m k : ℕ) (numbered : number_at was m ≡ Some k) (same : are_same kept (row q m) (row p k) ≡ true) where
    along : (n j : ℕ) → PathTo p n k j → IsHad was j
    along zero j here = (m, numbered ∙ ap Some here)
    along (suc n) j path =
        let load = same_loads (row q m) (row p k) same path.0 path.1 in
        (right load.0 path.0 load.1).1 j (n, path.2)

    -- all that it reached is unchanged
    pub reaches : ReachesHad p was k
    reaches j path = along path.0 j path.1

    -- an unchanged module whose loads keep their outcomes
    pub keeps : AreUnchanged before p means was → is_cyclic q m ≡ false → is_too_deep q m ≡ false → Keeps before (outcome means q) m k
    keeps unchanged c d h =
        let t = unchanged m k numbered reaches h in
        let now : load_values (outcome means q) (row q m) ≡ Ok t.0 = same_values (row q m) (row p k) t.0 same t.1 in
        outcome_is means q m ∙ evaluated_is means q (outcome means q) m c d ∙ ap (evaluated (means m)) now ∙ t.2

-- the outcome that a module had, where it is found
pub found_before : {M N V F : Type 0} (see : M → V) (see_fault : N → F) (outcomes : List (Outcome (Arc M Global) (Arc N Global))) (k : ℕ) → k < length outcomes
    → (o : Outcome (Arc M Global) (Arc N Global)) → o ≡ get_or outcomes k o → shown see see_fault o ≡ had (map (shown see see_fault) outcomes) k
found_before see see_fault outcomes k h o e = ap (shown see see_fault) e ∙ sym (get_or-map (shown see see_fault) outcomes k o (LoadFailed 0) h)

-- a module of the order
pub in_order : (q : Loads) (os xs : List ℕ) (i : ℕ) → IsLoadOrder q os → xs ≡ os → i < length xs → (get_or xs i 0 < length q) × (is_cyclic q (get_or xs i 0) ≡ false)
in_order q os xs i sorted e h =
    let here = Has-get_or os i (subst (λ (t : List ℕ). i < length t) e h) in
    subst (λ (t : List ℕ). (get_or t i 0 < length q) × (is_cyclic q (get_or t i 0) ≡ false)) (sym e) (sorted.within (get_or os i 0) here, sorted.acyclic (get_or os i 0) here)
