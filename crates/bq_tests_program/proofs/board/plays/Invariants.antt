use Rattle.bq_board.specs.Seats.{IsSeatOf}
use Rattle.bq_tests_program.proofs.board.plays.Given as goal

abbrev pub invariant-loop-letter : goal.invariant-loop-letter
invariant-loop-letter l = IsSeatOf l.board l.seat
