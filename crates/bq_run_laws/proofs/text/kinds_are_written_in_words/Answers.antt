use Rattle.bq_run_laws.proofs.Texts.{kinds_in_words}
use Rattle.bq_run_laws.proofs.text.kinds_are_written_in_words.Goals as goal

pub returns : goal.returns
returns c = kinds_in_words
