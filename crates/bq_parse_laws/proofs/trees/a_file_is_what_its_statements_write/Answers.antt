use Rattle.std.proofs.Common.{Ok, refl}
use Rattle.bq_parse_grammar.specs.Pieces.{pieces}
use Rattle.bq_parse_laws.proofs.FileWriting.{file_tells}
use Rattle.bq_parse_laws.proofs.trees.a_file_is_what_its_statements_write.Goals as goal

pub returns : goal.returns
returns c = λ kind ts xs p. file_tells kind (pieces ts) xs (Ok xs) refl p
