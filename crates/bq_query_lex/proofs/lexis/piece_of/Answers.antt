use Rattle.std.proofs.Common.{arith}
use Rattle.std.proofs.lemmas.Grind.{common_steps}
use Rattle.bq_query_lex.specs.Lexis.{piece_of}
use Rattle.bq_query_lex.proofs.lexis.piece_of.Goals as goal

pub returns-then-b-eq34 : goal.returns-then-b-eq34
unfolding piece_of
returns-then-b-eq34 c = grind (arith, common_steps)
