-- How a pool's board ends.
use Rattle.std.specs.Prelude.{ℕ}
use Rattle.bq_board.specs.Closing.{EndsWith}
use Rattle.bq_board.specs.Seats.{base_of, seats_of, view_of}
use Rattle.bq_board.specs.declared.board.Board.{Board}
use Rattle.bq_board.specs.declared.board.Seat.{Seat}

-- in a state that meets the board's rule, where parcels belong so to modules, and in which the seat has done what its view says
abbrev pub ClosesWith : {V B : Type 0} → Board V B → Seat V B → (B → ℕ → V → Type 0) → Type 0
ClosesWith board seat belongs = EndsWith belongs (base_of board) board.plan (seats_of board) seat.place.id (view_of seat)
