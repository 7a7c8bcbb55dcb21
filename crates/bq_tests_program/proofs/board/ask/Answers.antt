use Rattle.bq_board.proofs.Conditions.{claims}
use Rattle.bq_tests_program.proofs.board.ask.Goals as goal

pub returns-clause-won : goal.returns-clause-won
returns-clause-won c = (claims c.args.board.now.plan _ _ c.args.m c.claim.result c.requires.seat.plan c.claim.ensures.answer).0

pub returns-clause-keeps : goal.returns-clause-keeps
returns-clause-keeps c = (claims c.args.board.now.plan _ _ c.args.m c.claim.result c.requires.seat.plan c.claim.ensures.answer).1
