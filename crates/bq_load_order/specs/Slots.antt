-- The outcomes that are known, in a slot for each module, and how they fill in load order.
use Rattle.std.specs.Prelude.{◌≡◌, ℕ, ◌<◌, false, List, length, take, set, Option, Some, None}
use lib.ListN.{get_or}
use mathlib.Core.Logic.{◌⊎◌}
use Rattle.bq_board_plan.specs.Counts.{Has}
use Rattle.bq_board_plan.specs.Graph.{Loads, row}
use Rattle.bq_board_plan.specs.Cycles.{is_cyclic}
use Rattle.bq_load_order.specs.Outcome.{first}
use Rattle.bq_load_order.specs.declared.outcome.Outcome.{Outcome}
use Rattle.bq_load_order.specs.declared.outcome.Outcome.TheVariants.{Cyclic, LoadFailed}

-- the modules that aren't cyclic, each after all that it loads
pub record IsLoadOrder (p : Loads) (ms : List ℕ) : Type 0 where
  pub within : (m : ℕ) → Has ms m → m < length p
  pub acyclic : (m : ℕ) → Has ms m → is_cyclic p m ≡ false
  pub after : (i l : ℕ) → i < length ms → Has (row p (get_or ms i 0)) l → Has (take i ms) l
  pub all : (m : ℕ) → m < length p → is_cyclic p m ≡ false → Has ms m

-- the list has f at each place below n, and no more
pub record Tabulates {A : Type 0} (n : ℕ) (f : ℕ → A) (xs : List A) : Type 0 where
  pub wide : length xs ≡ n
  pub each : (m : ℕ) (d : A) → m < n → get_or xs m d ≡ f m

module _ {V F : Type 0} where
  -- a module for which nothing was found counts as failed: it has no value
  abbrev pub or_failed : Option (Outcome V F) → Outcome V F
  or_failed (Some o) = o
  or_failed None = LoadFailed 0

  abbrev pub found_at : List (Option (Outcome V F)) → ℕ → Outcome V F
  found_at slots m = or_failed (get_or slots m None)

  abbrev pub or_else : Outcome V F → Option (Outcome V F) → Outcome V F
  or_else other (Some o) = o
  or_else other None = other

  -- and at the end as cyclic
  abbrev pub or_cyclic : Loads → List (Option (Outcome V F)) → ℕ → Outcome V F
  or_cyclic p slots m = or_else (Cyclic (first (is_cyclic p) (row p m))) (get_or slots m None)

  module _ (out : ℕ → Outcome V F) where
    -- these modules have their outcomes
    abbrev pub Done : List (Option (Outcome V F)) → List ℕ → Type 0
    Done slots ms = (l : ℕ) → Has ms l → get_or slots l None ≡ Some (out l)

    -- a module has its outcome or none
    abbrev pub Right : List (Option (Outcome V F)) → ℕ → Type 0
    Right slots m = (get_or slots m None ≡ None) ⊎ (get_or slots m None ≡ Some (out m))

    -- of n modules these have their outcomes, and no module has another
    pub record Filling (n : ℕ) (slots : List (Option (Outcome V F))) (ms : List ℕ) : Type 0 where
      pub wide : length slots ≡ n
      pub done : Done slots ms
      pub right : (m : ℕ) → Right slots m

    -- the outcome of m can be found now
    pub record Ready (p : Loads) (slots : List (Option (Outcome V F))) (m : ℕ) : Type 0 where
      pub wide : length slots ≡ length p
      pub known : m < length p
      pub acyclic : is_cyclic p m ≡ false
      pub done : Done slots (row p m)
      pub right : Right slots m

    -- the outcome of m was found, and nothing else
    abbrev pub Puts : ℕ → List (Option (Outcome V F)) → List (Option (Outcome V F)) → Type 0
    Puts m old new = new ≡ set old m (Some (out m))
