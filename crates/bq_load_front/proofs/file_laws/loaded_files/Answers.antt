use Rattle.bq_load_front.proofs.Loads.{loaded_files}
use Rattle.bq_load_front.proofs.file_laws.loaded_files.Goals as goal

pub returns : goal.returns
returns c = loaded_files
