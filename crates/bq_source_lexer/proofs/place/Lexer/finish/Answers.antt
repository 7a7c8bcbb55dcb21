use Rattle.std.proofs.Common.{arith}
use Rattle.std.proofs.lemmas.Grind.{common_steps}
use Rattle.bq_source_lexer.specs.Reading.{finish}
use Rattle.bq_source_lexer.proofs.place.Lexer.finish.Goals as goal

pub returns-in-Some : goal.returns-in-Some
unfolding finish
returns-in-Some c = grind (arith, common_steps)
