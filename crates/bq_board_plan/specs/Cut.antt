-- A load graph whose cyclic and too deep modules load nothing.
use Rattle.std.specs.Prelude.{◌≡◌, ℕ, ◌<◌, List, [], length, true, false}
use Rattle.bq_board_plan.specs.Cycles.{is_cyclic}
use Rattle.bq_board_plan.specs.Depth.{is_too_deep}
use Rattle.bq_board_plan.specs.Graph.{Loads, row, IsGraph}
use Rattle.bq_board_plan.specs.Plan.{IsPlan}

-- what m loads in it
pub record IsCutRow (p : Loads) (m : ℕ) (loads : List ℕ) : Type 0 where
  pub cyclic : is_cyclic p m ≡ true → loads ≡ []
  pub deep : is_too_deep p m ≡ true → loads ≡ []
  pub rest : is_cyclic p m ≡ false → is_too_deep p m ≡ false → loads ≡ row p m

-- q is p without the loads of cyclic and of too deep modules
pub record IsCut (p q : Loads) : Type 0 where
  pub wide : length q ≡ length p
  pub each : (m : ℕ) → IsCutRow p m (row q m)

-- the first i rows
pub record CutsBelow (p : Loads) (i : ℕ) (q : Loads) : Type 0 where
  pub wide : length q ≡ i
  pub each : (m : ℕ) → m < i → IsCutRow p m (row q m)

-- a load graph without the loads of its cyclic and too deep modules is a plan: it has no cyclic modules
abbrev pub CutsToPlan : Loads → Loads → Type 0
CutsToPlan p q = IsGraph p → IsCut p q → IsPlan q
