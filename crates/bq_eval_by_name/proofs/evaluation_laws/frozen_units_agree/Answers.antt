use Rattle.bq_eval_by_name.proofs.Units.{units_agree}
use Rattle.bq_eval_by_name.proofs.evaluation_laws.frozen_units_agree.Goals as goal

pub returns : goal.returns
returns c files resolved_files are loaded n = units_agree files resolved_files are loaded n
