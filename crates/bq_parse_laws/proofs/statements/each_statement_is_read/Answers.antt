use Rattle.bq_parse_laws.proofs.Verdicts.{statement_met, ends_there}
use Rattle.bq_parse_laws.proofs.statements.each_statement_is_read.Goals as goal

pub returns : goal.returns
returns c depth ts rest x p h = statement_met depth ts rest x p (ends_there rest h)
