use Rattle.std.proofs.Common.{◌≡◌, ◌+◌, ◌-◌, All, vec_len}
use Rattle.bq_board.specs.Board.{blank, blank_with}
use Rattle.bq_board.specs.Seats.{IsSeatOf, base_of, view_of}
use Rattle.bq_board.proofs.board.Board.cut.Given as goal

abbrev pub invariant-loop : goal.invariant-loop
invariant-loop g l = record {
  count : vec_len l.all + 1 ≡ l.counter;
  fresh : All (λ s. IsSeatOf l.self s × (view_of s ≡ blank (base_of l.self) l.self.plan)) l.all.items;
  first : IsSeatOf l.self l.first × (view_of l.first ≡ blank_with (base_of l.self) l.self.plan (l.seats - l.counter));
}
