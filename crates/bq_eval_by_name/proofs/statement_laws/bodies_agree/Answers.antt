use Rattle.bq_eval_by_name.proofs.StatementAgreement.{bodies_agree}
use Rattle.bq_eval_by_name.proofs.statement_laws.bodies_agree.Goals as goal

pub returns : goal.returns
returns c w m file x = bodies_agree m file x.round x.surroundings x.call x.other x.around x.calls
