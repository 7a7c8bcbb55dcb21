-- The last state of a board.
use Rattle.std.specs.Prelude.{◌≡◌, ℕ, Option}
use lib.ListN.{get_elem?}
use mathlib.Core.Option.{some}
use Rattle.atomic_table.specs.Table.{State}
use Rattle.bq_board_plan.specs.Graph.{Loads}
use Rattle.bq_board.specs.Board.{RuleHolds}
use Rattle.bq_board.specs.declared.view.View.{View}

-- some state meets the rule of a board with this many seats, and has this view at this place
abbrev pub EndsWith : {B V : Type 0} → (B → ℕ → V → Type 0) → B → Loads → ℕ → ℕ → View B → Type 0
EndsWith {B} {V} fact b p seats id v = (s : State (Option V) (View B)) × RuleHolds fact b p seats s × (get_elem? s.views id ≡ some v)
