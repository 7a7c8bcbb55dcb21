use Rattle.bq_parse_laws.proofs.Verdicts.{statement_sound}
use Rattle.bq_parse_laws.proofs.statements.what_is_read_is_a_statement.Goals as goal

pub returns : goal.returns
returns c depth ts = statement_sound depth ts
