use Rattle.bq_eval_by_name.proofs.StatementAgreement.{statements_agree}
use Rattle.bq_eval_by_name.proofs.statement_laws.statements_agree.Goals as goal

pub returns : goal.returns
returns c w m file x = statements_agree m file x.block x.rest x.eval x.other x.nested x.evals
