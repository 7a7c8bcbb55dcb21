use Rattle.std.proofs.Common.{◌≡◌, ◌+◌, length, All}
use Rattle.bq_board.specs.Board.{blank}
use Rattle.bq_board.specs.Seats.{IsSeatOf, base_of, view_of}
use Rattle.bq_load_workers.proofs.opening.seats_and_stealers.Given as goal

abbrev pub invariant-loop-i : goal.invariant-loop-i
invariant-loop-i g l = record {
  count : length l.seats.items ≡ l.i;
  left : length l.places.items + l.i ≡ length l.fn.places.items;
  old : All (λ s. IsSeatOf l.board s × (view_of s ≡ blank (base_of l.board) l.board.plan)) l.places.items;
  fresh : All (λ s. IsSeatOf l.board s.place × (view_of s.place ≡ blank (base_of l.board) l.board.plan)) l.seats.items;
}
