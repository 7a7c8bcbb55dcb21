use Rattle.std.proofs.Common.{arith}
use Rattle.std.proofs.lemmas.Grind.{common_steps}
use Rattle.bq_source_lexer.specs.Reading.{step}
use Rattle.bq_source_lexer.proofs.place.Lexer.step.Goals as goal

pub overflow_cast-line : goal.overflow_cast-line
unfolding step
overflow_cast-line c = grind (arith, common_steps)

pub overflow_add-line : goal.overflow_add-line
unfolding step
overflow_add-line c = grind (arith, common_steps)
