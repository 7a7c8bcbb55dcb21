use Rattle.bq_load_laws.proofs.Alike.{unchanged_evaluate_alike}
use Rattle.bq_load_laws.proofs.changed_outcome.unchanged_modules_evaluate_alike.Goals as goal

pub returns : goal.returns
returns c = unchanged_evaluate_alike
