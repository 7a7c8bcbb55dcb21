use Rattle.bq_eval_spec.proofs.EnvironmentBinding.{one_name}
use Rattle.bq_eval_spec.proofs.environment_laws.binding_by_name_is_of_one_name.Goals as goal

pub returns : goal.returns
returns c = one_name
