-- A topological order of a load graph: each module comes after all that it loads, and the cyclic ones are left over.
use Rattle.std.specs.Prelude.{true, false, ◌≡◌, ℕ, ◌<◌, ◌==◌, cond, List, length, take}
use lib.ListN.{get_or}
use Rattle.bq_board_plan.specs.Counts.{times, Has}
use Rattle.bq_board_plan.specs.Graph.{Loads, row}
use Rattle.bq_board_plan.specs.Cycles.{is_cyclic}

-- 1 for 0, and 0 for any other number
abbrev pub is_zero : ℕ → ℕ
is_zero n = cond (n == 0) 1 0

-- `pending` counts for each module the loads that are not in the order
pub record IsTopologicalOrder (p : Loads) (order pending : List ℕ) : Type 0 where
  pub wide : length pending ≡ length p
  pub within : (u : ℕ) → Has order u → u < length p
  pub once : (u : ℕ) → u < length p → times u order ≡ is_zero (get_or pending u 0)
  pub after : (i l : ℕ) → i < length order → Has (row p (get_or order i 0)) l → Has (take i order) l
  pub rest : (u : ℕ) → u < length p → 0 < get_or pending u 0 → (l : ℕ) × Has (row p u) l × (l < length p) × (0 < get_or pending l 0)

-- the modules with a pending load are the cyclic ones
pub record MarksCycles (p : Loads) (pending : List ℕ) : Type 0 where
  pub wide : length pending ≡ length p
  pub none : (m : ℕ) → m < length p → get_or pending m 0 ≡ 0 → is_cyclic p m ≡ false
  pub some : (m : ℕ) → m < length p → 0 < get_or pending m 0 → is_cyclic p m ≡ true
