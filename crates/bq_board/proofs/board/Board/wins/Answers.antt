use Rattle.bq_board.specs.declared.claim.Claim.TheVariants.{Won, Taken, Waiting}
use Rattle.bq_board.proofs.Conditions.{claims, finished_kept}
use Rattle.bq_board.proofs.board.Board.wins.Goals as goal

pub returns-in-Won-clause-holds : goal.returns-in-Won-clause-holds
returns-in-Won-clause-holds g c _ = (claims c.args.self.now.plan _ _ c.args.m Won c.requires.seat.plan c.in-Won.ensures.answer).0

pub returns-in-Won-clause-finished : goal.returns-in-Won-clause-finished
returns-in-Won-clause-finished g c = finished_kept _ _ c.args.m Won c.in-Won.ensures.answer

pub returns-in-Taken-clause-finished : goal.returns-in-Taken-clause-finished
returns-in-Taken-clause-finished g c = finished_kept _ _ c.args.m Taken c.in-Taken.ensures.answer

pub returns-in-Waiting-clause-finished : goal.returns-in-Waiting-clause-finished
returns-in-Waiting-clause-finished g c = finished_kept _ _ c.args.m (Waiting _) c.in-Waiting.ensures.answer
