use Rattle.bq_eval_by_name.proofs.Values.{frozen_keeps}
use Rattle.bq_eval_by_name.proofs.evaluation_laws.frozen_modules_keep_their_globals.Goals as goal

pub returns : goal.returns
returns c file imports globals all = frozen_keeps file imports globals all
