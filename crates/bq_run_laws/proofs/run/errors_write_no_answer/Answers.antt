use Rattle.bq_run_laws.proofs.Written.{unanswered, silent}
use Rattle.bq_run_laws.proofs.run.errors_write_no_answer.Goals as goal

pub returns-clause-unanswered : goal.returns-clause-unanswered
returns-clause-unanswered c = unanswered

pub returns-clause-silent : goal.returns-clause-silent
returns-clause-silent c = silent
