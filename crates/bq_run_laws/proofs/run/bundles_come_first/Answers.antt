use Rattle.bq_run_laws.proofs.Written.{bundle_first}
use Rattle.bq_run_laws.proofs.run.bundles_come_first.Goals as goal

pub returns : goal.returns
returns c = bundle_first
