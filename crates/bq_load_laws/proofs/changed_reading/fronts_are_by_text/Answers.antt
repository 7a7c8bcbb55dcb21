use Rattle.bq_load_laws.proofs.Fronts.{fronts_are_by_text}
use Rattle.bq_load_laws.proofs.changed_reading.fronts_are_by_text.Goals as goal

pub returns : goal.returns
returns c = fronts_are_by_text
