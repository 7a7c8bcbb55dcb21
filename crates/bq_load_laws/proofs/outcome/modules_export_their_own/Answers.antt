use Rattle.bq_load_laws.proofs.Outcomes.Exports.{exports_its_own}
use Rattle.bq_load_laws.proofs.outcome.modules_export_their_own.Goals as goal

pub returns : goal.returns
returns c = exports_its_own
