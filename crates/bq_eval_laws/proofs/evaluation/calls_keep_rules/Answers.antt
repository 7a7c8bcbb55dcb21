use Rattle.bq_eval_laws.proofs.Evaluations.Rules.{rules_stay}
use Rattle.bq_eval_laws.proofs.evaluation.calls_keep_rules.Goals as goal

pub returns : goal.returns
returns c k names hosts = rules_stay names _ hosts
