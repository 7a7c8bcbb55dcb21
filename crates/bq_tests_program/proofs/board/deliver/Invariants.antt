use Rattle.bq_board.specs.Seats.{IsSeatOf, view_of}
use Rattle.bq_board.specs.Conditions.{Delivers}
use Rattle.bq_tests_program.proofs.board.deliver.Given as goal

abbrev pub invariant-loop-e : goal.invariant-loop-e
invariant-loop-e l = record {
  seat : IsSeatOf l.board l.seat;
  done : Delivers (view_of l.fn.seat) l.e-items l.e-index (view_of l.seat);
}
