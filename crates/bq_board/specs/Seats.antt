-- What a clause says of a board and its seats.
use Rattle.std.specs.Prelude.{◌≡◌, ℕ, Option}
use Rattle.atomic_table.specs.Seated.{TableId}
use Rattle.atomic_table.specs.declared.shared.Seat.{Seat as Place}
use Rattle.bq_board_plan.specs.Graph.{Loads}
use Rattle.bq_board.specs.declared.board.Board.{Board}
use Rattle.bq_board.specs.declared.board.Seat.{Seat}
use Rattle.bq_board.specs.declared.view.View.{View}

-- the place is at the table z, of this base and plan, and no edge of it is half posted
pub record SitsAt {B V : Type 0} (z : TableId) (b : B) (p : Loads) (s : Place (Option V) (View B)) : Type 0 where
  pub table : s.table_id ≡ z
  pub base : s.me.0.base ≡ b
  pub plan : s.me.0.plan ≡ p
  pub even : s.me.0.opened ≡ s.me.0.posted

module _ {V B : Type 0} where
  -- the base by which the board's parcels belong to modules
  abbrev pub base_of : Board V B → B
  base_of b = b.table.shared.key.base.value

  -- how many seats the board was opened for
  abbrev pub seats_of : Board V B → ℕ
  seats_of b = b.table.shared.key.seats.value

  -- what the seat has seen and done
  abbrev pub view_of : Seat V B → View B
  view_of s = s.place.me.0

  -- the seat is the board's
  abbrev pub IsSeatOf : Board V B → Seat V B → Type 0
  IsSeatOf b s = SitsAt b.table.shared.table_id (base_of b) b.plan s.place
