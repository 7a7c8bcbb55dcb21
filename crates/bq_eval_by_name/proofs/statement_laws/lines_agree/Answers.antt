use Rattle.bq_eval_by_name.proofs.StatementAgreement.{lines_agree}
use Rattle.bq_eval_by_name.proofs.statement_laws.lines_agree.Goals as goal

pub returns : goal.returns
returns c w m file eval other evals = lines_agree m file eval other evals
