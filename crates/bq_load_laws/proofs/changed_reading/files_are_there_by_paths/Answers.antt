use Rattle.bq_load_laws.proofs.Fronts.{files_are_there}
use Rattle.bq_load_laws.proofs.changed_reading.files_are_there_by_paths.Goals as goal

pub returns : goal.returns
returns c = files_are_there
