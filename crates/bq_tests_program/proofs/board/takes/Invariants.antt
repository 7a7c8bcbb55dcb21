use Rattle.bq_board.specs.Seats.{IsSeatOf}
use Rattle.bq_tests_program.proofs.board.takes.Given as goal

abbrev pub invariant-loop : goal.invariant-loop
invariant-loop l = IsSeatOf l.board l.seat
