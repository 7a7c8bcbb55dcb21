use Rattle.bq_query_lex.proofs.Readings.{every}
use Rattle.bq_query_lex.proofs.laws.every_text_has_its_reading.Goals as goal

pub returns : goal.returns
returns c = every
