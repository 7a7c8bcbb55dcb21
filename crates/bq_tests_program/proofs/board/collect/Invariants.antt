use Rattle.bq_board.specs.Seats.{IsSeatOf, view_of}
use Rattle.bq_board.specs.Conditions.{Collects}
use Rattle.bq_tests_program.proofs.board.collect.Given as goal

abbrev pub invariant-loop-e : goal.invariant-loop-e
invariant-loop-e l = record {
  seat : IsSeatOf l.board l.seat;
  done : Collects l.board.plan (view_of l.fn.seat) l.m l.e (view_of l.seat);
}
