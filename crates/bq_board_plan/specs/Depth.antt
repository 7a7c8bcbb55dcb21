-- Which modules of a load graph are too deep: more of its loads come after one another than loading allows.
use Rattle.std.specs.Prelude.{◌≡◌, ℕ, suc, ◌+◌, ◌<◌, ◌≤◌, ◌↔◌, Bool, true, false, not, ◌&&◌, List, length}
use lib.ListN.{get_or}
use Rattle.bq_board_plan.specs.Counts.{Has}
use Rattle.bq_board_plan.specs.Graph.{Loads, row}
use Rattle.bq_board_plan.specs.Cycles.{HasPath, starts_path, is_cyclic}

-- the most edges that a path may have from a module that is evaluated
unfoldable pub max_load_depth : ℕ
max_load_depth = 1000

-- it isn't cyclic, and a path of one edge more starts at it
unfoldable pub is_too_deep : Loads → ℕ → Bool
is_too_deep p m = not (is_cyclic p m) && starts_path p (suc max_load_depth) m

-- the longest path that starts at m has d edges
abbrev pub IsDepth : Loads → ℕ → ℕ → Type 0
IsDepth p m d = (starts_path p d m ≡ true) × (starts_path p (suc d) m ≡ false)

-- those of the modules that aren't cyclic
pub record HasDepths (p : Loads) (depths : List ℕ) : Type 0 where
  pub wide : length depths ≡ length p
  pub each : (m : ℕ) → m < length p → is_cyclic p m ≡ false → IsDepth p m (get_or depths m 0)

-- ---- while they are found

-- one more than the largest that f has at these, or 0 where there are none
pub record IsOneAbove (f : ℕ → ℕ) (xs : List ℕ) (d : ℕ) : Type 0 where
  pub over : (x : ℕ) → Has xs x → f x < d
  pub some : 0 < d → (x : ℕ) × Has xs x × (f x + 1 ≡ d)

-- the depths of the first modules of a topological order, which are as many as they at most
pub record DepthsBelow (p : Loads) (ms depths : List ℕ) : Type 0 where
  pub wide : length depths ≡ length p
  pub low : (m : ℕ) → get_or depths m 0 ≤ length ms
  pub each : (m : ℕ) → Has ms m → IsDepth p m (get_or depths m 0)

-- ---- in words of paths

-- too deep is just what isn't cyclic and has such a path
abbrev pub TooDeepByPaths : Loads → Type 0
TooDeepByPaths p = (m : ℕ) → (is_too_deep p m ≡ true) ↔ ((is_cyclic p m ≡ false) × HasPath p (suc max_load_depth) m)

-- what has a path of as many edges as there may be, and none of more, is not
abbrev pub DeepEnough : Loads → Type 0
DeepEnough p = (m : ℕ) → HasPath p max_load_depth m → ¬ HasPath p (suc max_load_depth) m → is_too_deep p m ≡ false

-- no module is both cyclic and too deep
abbrev pub NotBoth : Loads → Type 0
NotBoth p = (m : ℕ) → ¬ ((is_cyclic p m ≡ true) × (is_too_deep p m ≡ true))

-- too deep is just what isn't cyclic and loads a module with a path of as many edges as there may be
abbrev pub LoadsADeep : Loads → Type 0
LoadsADeep p = (m : ℕ) → (is_too_deep p m ≡ true) ↔ ((is_cyclic p m ≡ false) × ((l : ℕ) × Has (row p m) l × HasPath p max_load_depth l))

-- what loads a too deep module is too deep or cyclic
abbrev pub DeepIsReached : Loads → Type 0
DeepIsReached p = (m l : ℕ) → Has (row p m) l → is_too_deep p l ≡ true → is_cyclic p m ≡ false → is_too_deep p m ≡ true
