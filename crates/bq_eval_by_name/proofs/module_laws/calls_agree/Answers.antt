use Rattle.bq_eval_by_name.proofs.Called as called
use Rattle.bq_eval_by_name.proofs.module_laws.calls_agree.Goals as goal

pub returns : goal.returns
returns c w m n named units agree v p s = called.calls_agree m named units agree n v p s
