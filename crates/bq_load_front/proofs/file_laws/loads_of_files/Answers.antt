use Rattle.bq_load_front.proofs.Loads.{loads_of_files}
use Rattle.bq_load_front.proofs.file_laws.loads_of_files.Goals as goal

pub returns : goal.returns
returns c = loads_of_files
