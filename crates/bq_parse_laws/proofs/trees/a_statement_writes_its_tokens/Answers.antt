use Rattle.bq_parse_laws.specs.Writes.{tokens}
use Rattle.bq_parse_laws.proofs.ExpressionWriting.{rest_writes}
use Rattle.bq_parse_laws.proofs.StatementWriting.{stmt_to_tells}
use Rattle.bq_parse_laws.proofs.trees.a_statement_writes_its_tokens.Goals as goal

pub returns : goal.returns
returns c = λ depth ts rest x p. stmt_to_tells depth ts rest x p (tokens rest) (rest_writes rest)
