use Rattle.bq_load_front.proofs.ResolvedFiles.{resolved_files_of_texts}
use Rattle.bq_load_front.proofs.file_laws.resolved_files_of_texts.Goals as goal

pub returns : goal.returns
returns c = resolved_files_of_texts
