use Rattle.bq_load_front.proofs.ResolvedFiles.{faults_of_files}
use Rattle.bq_load_front.proofs.file_laws.faults_of_files.Goals as goal

pub returns : goal.returns
returns c = faults_of_files
