-- Which modules of a load graph keep the outcomes that modules of another one had.
use Rattle.std.specs.Prelude.{◌≡◌, ℕ, ◌==◌, ◌&&◌, Bool, true, false, List, [], ◌∷◌, Option, Some, None, Result, Ok}
use lib.ListN.{get_or}
use Rattle.bq_board_plan.specs.Cycles.{Reaches}
use Rattle.bq_board_plan.specs.Graph.{Loads, row}
use Rattle.bq_load_order.specs.Outcome.{load_values, own}
use Rattle.bq_load_order.specs.declared.outcome.Outcome.{Outcome}
use Rattle.bq_load_order.specs.declared.outcome.Outcome.TheVariants.{Loaded, Faulty, Cyclic, TooDeep, LoadFailed}

-- the number that a module had
abbrev pub number_at : List (Option ℕ) → ℕ → Option ℕ
number_at was m = get_or was m None

-- one of the modules had this number
abbrev pub IsHad : List (Option ℕ) → ℕ → Type 0
IsHad was k = (m : ℕ) × (number_at was m ≡ Some k)

-- one of them had the number of each module that loads lead to from module k, which is one of these
abbrev pub ReachesHad : Loads → List (Option ℕ) → ℕ → Type 0
ReachesHad p was k = (j : ℕ) → Reaches p k j → IsHad was j

module _ {V F : Type 0} where
  -- the outcome that the module of this number had; a module past the last one had no value
  abbrev pub had : List (Outcome V F) → ℕ → Outcome V F
  had outcomes k = get_or outcomes k (LoadFailed 0)

  -- a value, or a fault of the module's own
  abbrev pub is_own : Outcome V F → Bool
  is_own (Loaded v) = true
  is_own (Faulty e) = true
  is_own (Cyclic l) = false
  is_own (TooDeep l) = false
  is_own (LoadFailed l) = false

  -- the value or the fault of its own that module k had is what module m evaluates to, by the values that the loads of k had
  abbrev pub EvaluatesAs : (before : ℕ → Outcome V F) → Loads → (k : ℕ) → (means : ℕ → List V → Result V F) → (m : ℕ) → Type 0
  EvaluatesAs before p k means m = is_own (before k) ≡ true → (vs : List V) × (load_values before (row p k) ≡ Ok vs) × (own (means m vs) ≡ before k)

  -- each module that has a number is unchanged: it evaluates as the module of that number did, if all that this one reached is unchanged
  abbrev pub AreUnchanged : (before : ℕ → Outcome V F) → Loads → (means : ℕ → List V → Result V F) → List (Option ℕ) → Type 0
  AreUnchanged before p means was = (m k : ℕ) → number_at was m ≡ Some k → ReachesHad p was k → EvaluatesAs before p k means m

  -- each module that has a number here has the outcome that the module of that number had, and all that this one reached is unchanged
  abbrev pub AreKept : (before after : ℕ → Outcome V F) → Loads → (was kept : List (Option ℕ)) → Type 0
  AreKept before after p was kept = (m k : ℕ) → number_at kept m ≡ Some k → (after m ≡ before k) × ReachesHad p was k

  -- the module has the value or the fault of its own that module k had, if that had one
  abbrev pub Keeps : (before after : ℕ → Outcome V F) → (m k : ℕ) → Type 0
  Keeps before after m k = is_own (before k) ≡ true → after m ≡ before k

-- the number that a module had, if it had one, is k
abbrev pub is_number : Option ℕ → ℕ → Bool
is_number None k = false
is_number (Some j) k = j == k

-- there are no numbers in the list
abbrev pub is_nothing : List ℕ → Bool
is_nothing [] = true
is_nothing (k ∷ ks) = false

-- the loads are, in order, the modules that had these numbers
unfoldable pub are_same : List (Option ℕ) → List ℕ → List ℕ → Bool
are_same kept [] ks = is_nothing ks
are_same kept (l ∷ ls) [] = false
are_same kept (l ∷ ls) (k ∷ ks) = is_number (number_at kept l) k && are_same kept ls ks
