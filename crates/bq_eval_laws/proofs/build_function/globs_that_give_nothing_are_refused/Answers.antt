use Rattle.bq_eval_laws.proofs.BuildFunctions.Nothing.{refused, only}
use Rattle.bq_eval_laws.proofs.build_function.globs_that_give_nothing_are_refused.Goals as goal

pub returns-clause-refused : goal.returns-clause-refused
returns-clause-refused c = refused

pub returns-clause-only : goal.returns-clause-only
returns-clause-only c = only
