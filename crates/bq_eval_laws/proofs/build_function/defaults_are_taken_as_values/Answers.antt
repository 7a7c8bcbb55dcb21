use Rattle.bq_eval_laws.proofs.BuildFunctions.Defaults.{defaults_are_taken_as_values}
use Rattle.bq_eval_laws.proofs.build_function.defaults_are_taken_as_values.Goals as goal

pub returns : goal.returns
returns c = defaults_are_taken_as_values
