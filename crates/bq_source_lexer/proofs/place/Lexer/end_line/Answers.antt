use Rattle.std.proofs.Common.{arith}
use Rattle.std.proofs.lemmas.Grind.{common_steps}
use Rattle.bq_source_lexer.specs.Reading.{end_line}
use Rattle.bq_source_lexer.proofs.place.Lexer.end_line.Goals as goal

pub returns : goal.returns
unfolding end_line
returns c = grind (arith, common_steps)

pub returns-then-not-is_empty : goal.returns-then-not-is_empty
unfolding end_line
returns-then-not-is_empty c = grind (arith, common_steps)
