use Rattle.bq_load_front.proofs.Texts as texts
use Rattle.bq_load_front.proofs.file_laws.files_of_texts.Goals as goal

pub returns : goal.returns
returns c = texts.files_of_texts
