use Rattle.bq_load_discover.proofs.Files.{modules_have_files}
use Rattle.bq_load_discover.proofs.laws.modules_have_files.Goals as goal

pub returns : goal.returns
returns c = modules_have_files
