use Rattle.bq_eval_laws.proofs.Calls.Misfits.{misfits_refused}
use Rattle.bq_eval_laws.proofs.Calls.Refused.{refused_misfits}
use Rattle.bq_eval_laws.proofs.call.misfits_are_refused.Goals as goal

pub returns-clause-refused : goal.returns-clause-refused
returns-clause-refused c = misfits_refused

pub returns-clause-only : goal.returns-clause-only
returns-clause-only c = refused_misfits
