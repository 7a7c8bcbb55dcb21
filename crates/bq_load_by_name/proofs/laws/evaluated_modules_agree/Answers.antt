use Rattle.bq_load_by_name.proofs.Modules.{modules_agree}
use Rattle.bq_load_by_name.proofs.laws.evaluated_modules_agree.Goals as goal

pub returns : goal.returns
returns c x parsed are m modules = modules_agree x parsed are m modules
