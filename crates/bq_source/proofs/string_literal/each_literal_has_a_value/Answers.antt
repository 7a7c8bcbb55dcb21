use Rattle.bq_source.proofs.LiteralLaws.{literal_has_value}
use Rattle.bq_source.proofs.string_literal.each_literal_has_a_value.Goals as goal

pub returns : goal.returns
returns c = literal_has_value
