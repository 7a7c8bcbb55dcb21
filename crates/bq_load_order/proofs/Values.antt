-- The values of loads, and the first number that passes a test: one after another.
use Rattle.std.proofs.Common.{◌≡◌, ℕ, ◌+◌, Bool, true, false, ◌<◌, ◌≤◌, List, [], ◌∷◌, ◌++◌, length, drop, get_or, Some, None, Result, Ok, Err, sym, refl, ap, ◌∙◌}
use Rattle.std.proofs.lemmas.List.{drop_more, drop_all, append_assoc, append-nil}
use Rattle.bq_load_order.specs.Outcome.{first, with_load_value, load_values}
use Rattle.bq_load_order.proofs.Solution.{cond_true, cond_false}
use Rattle.bq_load_order.specs.declared.outcome.Outcome.{Outcome}
use Rattle.bq_load_order.specs.declared.outcome.Outcome.TheVariants.{Loaded, Faulty, Cyclic, TooDeep, LoadFailed}
use Rattle.bq_load_order.specs.SharedOutcomes.{value_in}

-- these values, and then those of the other loads
abbrev pub before : {V : Type 0} → List V → Result (List V) ℕ → Result (List V) ℕ
before xs (Ok vs) = Ok (xs ++ vs)
before xs (Err l) = Err l

begins : {V : Type 0} (r : Result (List V) ℕ) → r ≡ before [] r
begins (Ok us) = refl
begins (Err l) = refl

module _ {V F : Type 0} where
  with_one : (o : Outcome V F) (v : V) (x : ℕ) (vs : List V) (r : Result (List V) ℕ) → value_in o ≡ Some v → before vs (with_load_value o x r) ≡ before (vs ++ v ∷ []) r
  with_one (Loaded w) v x vs (Ok us) e = let same : w ≡ v = cc in ap (λ u. Ok (vs ++ u ∷ us)) same ∙ ap Ok (sym (append_assoc vs (v ∷ []) us))
  with_one (Loaded w) v x vs (Err l) e = refl
  with_one (Faulty f) v x vs r e = absurd (cc)
  with_one (Cyclic l) v x vs r e = absurd (cc)
  with_one (TooDeep l) v x vs r e = absurd (cc)
  with_one (LoadFailed l) v x vs r e = absurd (cc)

  without : (o : Outcome V F) (x : ℕ) (vs : List V) (r : Result (List V) ℕ) → value_in o ≡ None → before vs (with_load_value o x r) ≡ Err x
  without (Loaded w) x vs r e = absurd (cc)
  without (Faulty f) x vs r e = refl
  without (Cyclic l) x vs r e = refl
  without (TooDeep l) x vs r e = refl
  without (LoadFailed l) x vs r e = refl

  module _ (at : ℕ → Outcome V F) (xs : List ℕ) where
    pub values_begin : load_values at xs ≡ before [] (load_values at (drop 0 xs))
    values_begin = begins (load_values at xs)

    -- the next load has a value
    pub values_next : (i : ℕ) (vs : List V) (v : V) → i < length xs → value_in (at (get_or xs i 0)) ≡ Some v → load_values at xs ≡ before vs (load_values at (drop i xs)) → load_values at xs ≡ before (vs ++ v ∷ []) (load_values at (drop (i + 1) xs))
    values_next i vs v h e so = so ∙ ap (λ ys. before vs (load_values at ys)) (drop_more xs i 0 h) ∙ with_one (at (get_or xs i 0)) v (get_or xs i 0) vs (load_values at (drop (i + 1) xs)) e

    -- the next load has none
    pub values_stop : (i : ℕ) (vs : List V) → i < length xs → value_in (at (get_or xs i 0)) ≡ None → load_values at xs ≡ before vs (load_values at (drop i xs)) → load_values at xs ≡ Err (get_or xs i 0)
    values_stop i vs h e so = so ∙ ap (λ ys. before vs (load_values at ys)) (drop_more xs i 0 h) ∙ without (at (get_or xs i 0)) (get_or xs i 0) vs (load_values at (drop (i + 1) xs)) e

    pub values_end : (i : ℕ) (vs : List V) → length xs ≤ i → load_values at xs ≡ before vs (load_values at (drop i xs)) → load_values at xs ≡ Ok vs
    values_end i vs h so = so ∙ ap (λ ys. before vs (load_values at ys)) (drop_all i xs h) ∙ ap Ok (append-nil vs)

-- the first number that passes a test, sought one after another
module _ (f : ℕ → Bool) (xs : List ℕ) (i : ℕ) (so : first f xs ≡ first f (drop i xs)) where
  pub first_next : i < length xs → f (get_or xs i 0) ≡ false → first f xs ≡ first f (drop (i + 1) xs)
  first_next h e = so ∙ ap (first f) (drop_more xs i 0 h) ∙ cond_false (f (get_or xs i 0)) (get_or xs i 0) (first f (drop (i + 1) xs)) e

  pub first_stop : i < length xs → f (get_or xs i 0) ≡ true → first f xs ≡ get_or xs i 0
  first_stop h e = so ∙ ap (first f) (drop_more xs i 0 h) ∙ cond_true (f (get_or xs i 0)) (get_or xs i 0) (first f (drop (i + 1) xs)) e

  pub first_end : length xs ≤ i → first f xs ≡ 0
  first_end h = so ∙ ap (first f) (drop_all i xs h)
