-- What holds while a topological order is made: of the dependents of each module, and from turn to turn.
use Rattle.std.specs.Prelude.{◌≡◌, ℕ, ◌+◌, ◌<◌, ◌≤◌, ◌≢◌, List, ◌++◌, length, take, []}
use lib.ListN.{get_or}
use Rattle.bq_board_plan.specs.Counts.{total, times, Has}
use Rattle.bq_board_plan.specs.Graph.{Loads, row}
use Rattle.bq_board_plan.specs.Topological.{is_zero}

-- how many entries of a row are in ms
abbrev pub closed : List ℕ → List ℕ → ℕ
closed ms xs = total (λ l. times l ms) xs

-- for each module, as often as they load it, the modules that load it
pub record IsDependents (p : Loads) (dependents : List (List ℕ)) : Type 0 where
  pub wide : length dependents ≡ length p
  pub known : (m u : ℕ) → Has (get_or dependents m []) u → u < length p
  pub both : (m u : ℕ) → m < length p → times u (get_or dependents m []) ≡ times m (row p u)

-- after `us`, the dependents of one module, had one load less that is open: those that have none left joined the order
pub record Settles (us pending left order grown : List ℕ) : Type 0 where
  pub wide : length left ≡ length pending
  pub less : (u : ℕ) → get_or left u 0 + times u us ≡ get_or pending u 0
  pub more : (fresh : List ℕ) × (grown ≡ order ++ fresh) × ((u : ℕ) → times u fresh + is_zero (get_or pending u 0) ≡ is_zero (get_or left u 0))

-- the state at the start of a turn: the loads into the first `at` modules of the order are closed
pub record Sorting (p : Loads) (at : ℕ) (order pending : List ℕ) : Type 0 where
  pub at_in : at ≤ length order
  pub wide : length pending ≡ length p
  pub within : (u : ℕ) → Has order u → u < length p
  pub left : (u : ℕ) → u < length p → closed (take at order) (row p u) + get_or pending u 0 ≡ length (row p u)
  pub once : (u : ℕ) → u < length p → times u order ≡ is_zero (get_or pending u 0)
  pub after : (i l : ℕ) → i < length order → Has (row p (get_or order i 0)) l → Has (take i order) l

-- one more dependent, of each module that it loads
pub record Adds (u : ℕ) (xs : List ℕ) (old new : List (List ℕ)) : Type 0 where
  pub wide : length new ≡ length old
  pub mine : (m : ℕ) → m < length old → times u (get_or new m []) ≡ times u (get_or old m []) + times m xs
  pub others : (m v : ℕ) → v ≢ u → times v (get_or new m []) ≡ times v (get_or old m [])

-- the dependents among the first i modules
pub record DependentsBelow (p : Loads) (i : ℕ) (dependents : List (List ℕ)) : Type 0 where
  pub wide : length dependents ≡ length p
  pub known : (m u : ℕ) → i ≤ u → times u (get_or dependents m []) ≡ 0
  pub both : (m u : ℕ) → m < length p → u < i → times u (get_or dependents m []) ≡ times m (row p u)

-- the first i modules counted, and those of them that load nothing put into the order
pub record Begins (p : Loads) (i : ℕ) (order pending : List ℕ) : Type 0 where
  pub wide : length pending ≡ i
  pub within : (u : ℕ) → Has order u → u < i
  pub each : (u : ℕ) → u < i → get_or pending u 0 ≡ length (row p u)
  pub once : (u : ℕ) → u < i → times u order ≡ is_zero (get_or pending u 0)
  pub bare : (k : ℕ) → k < length order → row p (get_or order k 0) ≡ []
