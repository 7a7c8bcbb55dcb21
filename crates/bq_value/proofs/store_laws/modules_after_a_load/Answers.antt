use Rattle.bq_value.proofs.Freezes.{at_loaded}
use Rattle.bq_value.proofs.store_laws.modules_after_a_load.Goals as goal

pub returns : goal.returns
returns c = at_loaded
