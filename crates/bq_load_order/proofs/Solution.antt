-- The recursion along loads has one solution, which `outcome` is.
use Rattle.std.proofs.Common.{◌≡◌, ℕ, zero, suc, ◌≤◌, Bool, true, false, cond, List, [], ◌∷◌, length, Result, sym, refl, ap, ◌∙◌, inl, inr, arith}
use Rattle.bq_board_plan.specs.Counts.{Has}
use Rattle.bq_board_plan.specs.Graph.{Loads, row}
use Rattle.bq_board_plan.specs.Cycles.{starts_path, is_cyclic}
use Rattle.bq_board_plan.specs.Depth.{max_load_depth, is_too_deep}
use Rattle.bq_board_plan.proofs.Lemmas.{bool_cases, head_has, tail_has, loads_acyclic, deep_both}
use Rattle.bq_load_order.specs.Outcome.{first, with_load_value, load_values, evaluated, by_loads, outcome_within, outcome, IsByLoads, HasOneSolution}
use Rattle.bq_load_order.specs.declared.outcome.Outcome.{Outcome}
use Rattle.bq_load_order.specs.declared.outcome.Outcome.TheVariants.{Cyclic, TooDeep}

pub cond_true : {A : Type 0} (b : Bool) (x y : A) → b ≡ true → cond b x y ≡ x
cond_true true x y e = refl
cond_true false x y e = absurd (cc)

pub cond_false : {A : Type 0} (b : Bool) (x y : A) → b ≡ false → cond b x y ≡ y
cond_false true x y e = absurd (cc)
cond_false false x y e = refl

module _ {V F : Type 0} where
  pub values_same : (at to : ℕ → Outcome V F) (xs : List ℕ) → ((l : ℕ) → Has xs l → at l ≡ to l) → load_values at xs ≡ load_values to xs
  values_same at to [] h = refl
  values_same at to (x ∷ xs) h = let e = h x (head_has x xs) in let r = values_same at to xs (λ l k. h l (tail_has x xs l k)) in λ i. with_load_value (e i) x (r i)

module _ {V F : Type 0} (means : ℕ → List V → Result V F) (p : Loads) where
  abbrev deep : ℕ → Outcome V F
  deep m = TooDeep (first (starts_path p max_load_depth) (row p m))

  -- the outcome by these values, for a module that isn't cyclic
  abbrev by_values : ℕ → Result (List V) ℕ → Outcome V F
  by_values m r = cond (is_too_deep p m) (deep m) (evaluated (means m) r)

  pub cyclic_is : (at : ℕ → Outcome V F) (m : ℕ) → is_cyclic p m ≡ true → by_loads means p at m ≡ Cyclic (first (is_cyclic p) (row p m))
  unfolding by_loads
  cyclic_is at m e = cond_true (is_cyclic p m) (Cyclic (first (is_cyclic p) (row p m))) (by_values m (load_values at (row p m))) e

  acyclic_is : (at : ℕ → Outcome V F) (m : ℕ) → is_cyclic p m ≡ false → by_loads means p at m ≡ by_values m (load_values at (row p m))
  unfolding by_loads
  acyclic_is at m e = cond_false (is_cyclic p m) (Cyclic (first (is_cyclic p) (row p m))) (by_values m (load_values at (row p m))) e

  pub deep_is : (at : ℕ → Outcome V F) (m : ℕ) → is_too_deep p m ≡ true → by_loads means p at m ≡ TooDeep (first (starts_path p max_load_depth) (row p m))
  deep_is at m e = acyclic_is at m (deep_both p m e).0 ∙ cond_true (is_too_deep p m) (deep m) (evaluated (means m) (load_values at (row p m))) e

  pub evaluated_is : (at : ℕ → Outcome V F) (m : ℕ) → is_cyclic p m ≡ false → is_too_deep p m ≡ false → by_loads means p at m ≡ evaluated (means m) (load_values at (row p m))
  evaluated_is at m e d = acyclic_is at m e ∙ cond_false (is_too_deep p m) (deep m) (evaluated (means m) (load_values at (row p m))) d

  by_loads_same : (at to : ℕ → Outcome V F) (m : ℕ) → ((l : ℕ) → Has (row p m) l → at l ≡ to l) → by_loads means p at m ≡ by_loads means p to m
  unfolding by_loads
  by_loads_same at to m h = ap (λ r. cond (is_cyclic p m) (Cyclic (first (is_cyclic p) (row p m))) (by_values m r)) (values_same at to (row p m) h)

  -- past the longest path the number of levels does not matter
  steady : (k n j m : ℕ) → k ≤ n → k ≤ j → starts_path p k m ≡ false → outcome_within means p n m ≡ outcome_within means p j m
  unfolding outcome_within starts_path
  steady zero n j m a b e = absurd (cc)
  steady (suc k) zero j m a b e = absurd (omega arith)
  steady (suc k) (suc n) zero m a b e = absurd (omega arith)
  steady (suc k) (suc n) (suc j) m a b e = by_loads_same (outcome_within means p n) (outcome_within means p j) m (λ l h. steady k n j l (omega arith) (omega arith) (loads_acyclic p k m l e h))

  pub outcome_is : IsByLoads means p (outcome means p)
  unfolding outcome outcome_within
  outcome_is m = elim (bool_cases (is_cyclic p m)) [
    | inl yes-it ↦ cyclic_is (outcome_within means p (length p)) m yes-it ∙ sym (cyclic_is (outcome means p) m yes-it)
    | inr not-it ↦ by_loads_same (outcome_within means p (length p)) (outcome means p) m (λ l h. steady (length p) (length p) (suc (length p)) l (omega arith) (omega arith) (loads_acyclic p (length p) m l not-it h))
  ]

  -- two solutions are alike
  alike : (at to : ℕ → Outcome V F) → IsByLoads means p at → IsByLoads means p to → (k m : ℕ) → starts_path p k m ≡ false → at m ≡ to m
  unfolding starts_path
  alike at to a b zero m e = absurd (cc)
  alike at to a b (suc k) m e = a m ∙ by_loads_same at to m (λ l h. alike at to a b k l (loads_acyclic p k m l e h)) ∙ sym (b m)

  only : (at : ℕ → Outcome V F) → IsByLoads means p at → (m : ℕ) → at m ≡ outcome means p m
  only at a m = elim (bool_cases (is_cyclic p m)) [
    | inl yes-it ↦ a m ∙ cyclic_is at m yes-it ∙ sym (cyclic_is (outcome means p) m yes-it) ∙ sym (outcome_is m)
    | inr not-it ↦ alike at (outcome means p) a outcome_is (suc (length p)) m not-it
  ]

  pub solved : HasOneSolution means p
  solved = (outcome_is, only)
