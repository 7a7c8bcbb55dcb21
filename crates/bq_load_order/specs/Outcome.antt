-- The outcome of each module of a load graph, by recursion along loads.
-- `means m vs` is what the module m evaluates to by the values vs of its loads: its value, or its own fault.
use Rattle.std.specs.Prelude.{◌≡◌, ℕ, zero, suc, cond, Bool, List, [], ◌∷◌, length, Result, Ok, Err}
use Rattle.bq_board_plan.specs.Graph.{Loads, row}
use Rattle.bq_board_plan.specs.Cycles.{is_cyclic, starts_path}
use Rattle.bq_board_plan.specs.Depth.{max_load_depth, is_too_deep}
use Rattle.bq_load_order.specs.declared.outcome.Outcome.{Outcome}
use Rattle.bq_load_order.specs.declared.outcome.Outcome.TheVariants.{Loaded, Faulty, Cyclic, TooDeep, LoadFailed}

-- the first that passes the test
abbrev pub first : (ℕ → Bool) → List ℕ → ℕ
first f [] = 0
first f (x ∷ xs) = cond (f x) x (first f xs)

module _ {V F : Type 0} where
  -- the values of loads, up to the first that didn't succeed
  abbrev pub with_load_value : Outcome V F → ℕ → Result (List V) ℕ → Result (List V) ℕ
  with_load_value (Loaded v) x (Ok vs) = Ok (v ∷ vs)
  with_load_value (Loaded v) x (Err l) = Err l
  with_load_value _ x r = Err x

  -- the values of modules with these outcomes, or the first that has none
  abbrev pub load_values : (ℕ → Outcome V F) → List ℕ → Result (List V) ℕ
  load_values at [] = Ok []
  load_values at (x ∷ xs) = with_load_value (at x) x (load_values at xs)

  -- a value, or an own fault
  abbrev pub own : Result V F → Outcome V F
  own (Ok v) = Loaded v
  own (Err e) = Faulty e

  -- the outcome of a module, by the values of its loads
  abbrev pub evaluated : (List V → Result V F) → Result (List V) ℕ → Outcome V F
  evaluated f (Ok vs) = own (f vs)
  evaluated f (Err l) = LoadFailed l

  -- one level of the recursion: m by the outcomes of its loads
  unfoldable pub by_loads : (ℕ → List V → Result V F) → Loads → (ℕ → Outcome V F) → ℕ → Outcome V F
  by_loads means p at m = cond (is_cyclic p m) (Cyclic (first (is_cyclic p) (row p m)))
      (cond (is_too_deep p m) (TooDeep (first (starts_path p max_load_depth) (row p m))) (evaluated (means m) (load_values at (row p m))))

  -- a number of levels of it
  unfoldable pub outcome_within : (ℕ → List V → Result V F) → Loads → ℕ → ℕ → Outcome V F
  outcome_within means p zero m = LoadFailed 0
  outcome_within means p (suc n) m = by_loads means p (outcome_within means p n) m

  -- no path from a module that isn't cyclic has more edges than there are modules
  unfoldable pub outcome : (ℕ → List V → Result V F) → Loads → ℕ → Outcome V F
  outcome means p m = outcome_within means p (suc (length p)) m

  -- these outcomes are those of their loads
  abbrev pub IsByLoads : (ℕ → List V → Result V F) → Loads → (ℕ → Outcome V F) → Type 0
  IsByLoads means p at = (m : ℕ) → at m ≡ by_loads means p at m

  -- the outcomes solve the recursion, and whatever solves it is the outcomes
  abbrev pub HasOneSolution : (ℕ → List V → Result V F) → Loads → Type 0
  HasOneSolution means p = IsByLoads means p (outcome means p) × ((at : ℕ → Outcome V F) → IsByLoads means p at → (m : ℕ) → at m ≡ outcome means p m)
