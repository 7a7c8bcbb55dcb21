use Rattle.bq_source_lexer.proofs.Reached.{every_text}
use Rattle.bq_source_lexer.proofs.laws.every_text_has_its_reading.Goals as goal

pub returns : goal.returns
returns c = every_text
