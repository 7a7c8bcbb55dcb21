-- What the outcomes are, in plain words.
use Rattle.std.specs.Prelude.{◌≡◌, ℕ, true, false, List, ◌∷◌, ◌++◌, map, Result}
use Rattle.bq_board_plan.specs.Counts.{Has}
use Rattle.bq_board_plan.specs.Graph.{Loads, row, Known}
use Rattle.bq_board_plan.specs.Cycles.{is_cyclic, HasPath, Reaches}
use Rattle.bq_board_plan.specs.Depth.{max_load_depth, is_too_deep}
use Rattle.bq_board_plan.specs.Cut.{IsCut}
use Rattle.bq_load_order.specs.Outcome.{outcome, own, evaluated, load_values}
use Rattle.bq_load_order.specs.declared.outcome.Outcome.TheVariants.{Loaded, Cyclic, TooDeep, LoadFailed}

-- x is in the list with P, and all before it are with Q
pub record IsFirst (P Q : ℕ → Type 0) (xs : List ℕ) (x : ℕ) : Type 0 where
  pub before : List ℕ
  pub after : List ℕ
  pub split : xs ≡ before ++ x ∷ after
  pub here : P x
  pub earlier : (y : ℕ) → Has before y → Q y

module _ {V F : Type 0} (means : ℕ → List V → Result V F) (p : Loads) where
  abbrev pub HasValue : ℕ → Type 0
  HasValue m = (v : V) × (outcome means p m ≡ Loaded v)

  abbrev pub CyclicOutcome : Type 0
  CyclicOutcome = Known p → (m : ℕ) → is_cyclic p m ≡ true → (l : ℕ) × (outcome means p m ≡ Cyclic l) × IsFirst (λ k. is_cyclic p k ≡ true) (λ k. is_cyclic p k ≡ false) (row p m) l

  abbrev pub TooDeepOutcome : Type 0
  TooDeepOutcome = (m : ℕ) → is_too_deep p m ≡ true → (l : ℕ) × (outcome means p m ≡ TooDeep l) × IsFirst (HasPath p max_load_depth) (λ k. ¬ HasPath p max_load_depth k) (row p m) l

  abbrev pub FailedLoadOutcome : Type 0
  FailedLoadOutcome = Known p → (m k : ℕ) → is_cyclic p m ≡ false → is_too_deep p m ≡ false → Has (row p m) k → ¬ HasValue k
      → (l : ℕ) × (outcome means p m ≡ LoadFailed l) × IsFirst (λ y. ¬ HasValue y) HasValue (row p m) l × (is_cyclic p l ≡ false) × (is_too_deep p l ≡ false)

  -- over the plan q, in which cyclic and too deep modules load nothing: what the loads of m in q give decides the outcome of m
  abbrev pub OutcomeByPlan : Loads → Type 0
  OutcomeByPlan q = IsCut p q → (m : ℕ) → is_cyclic p m ≡ false → is_too_deep p m ≡ false → outcome means p m ≡ evaluated (means m) (load_values (outcome means p) (row q m))

  abbrev pub LoadedOutcome : Type 0
  LoadedOutcome = (m : ℕ) (vs : List V) → is_cyclic p m ≡ false → is_too_deep p m ≡ false → map (outcome means p) (row p m) ≡ map Loaded vs → outcome means p m ≡ own (means m vs)

-- where two graphs, and what modules evaluate to, agree on all that m reaches, they agree on its outcome
abbrev pub OutcomeOfReached : {V F : Type 0} → (ℕ → List V → Result V F) → (ℕ → List V → Result V F) → Loads → Loads → Type 0
OutcomeOfReached {V} means others p q = Known p → Known q → (m : ℕ) → ((l : ℕ) → Reaches p m l → (row p l ≡ row q l) × ((vs : List V) → means l vs ≡ others l vs)) → outcome means p m ≡ outcome others q m
