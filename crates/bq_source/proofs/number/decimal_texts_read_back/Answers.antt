use Rattle.bq_source.proofs.NumberLaws.{reads_back}
use Rattle.bq_source.proofs.number.decimal_texts_read_back.Goals as goal

pub returns : goal.returns
returns c = reads_back
