use Rattle.bq_parse_laws.specs.Writes.{tokens}
use Rattle.bq_parse_laws.proofs.ExpressionWriting.{test_to_tells, rest_writes}
use Rattle.bq_parse_laws.proofs.trees.an_expression_writes_its_tokens.Goals as goal

pub returns : goal.returns
returns c = λ depth ts rest x p. test_to_tells depth ts rest x p (tokens rest) (rest_writes rest)
