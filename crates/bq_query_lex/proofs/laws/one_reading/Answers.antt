use Rattle.bq_query_lex.proofs.Unique.{unique}
use Rattle.bq_query_lex.proofs.laws.one_reading.Goals as goal

pub returns : goal.returns
returns c text r s g h = unique text 0 r s g h
