use Rattle.bq_source_lexer.proofs.Unique.{one_reading}
use Rattle.bq_source_lexer.proofs.laws.one_reading.Goals as goal

pub returns : goal.returns
returns c = one_reading
