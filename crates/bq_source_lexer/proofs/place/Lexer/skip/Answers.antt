use Rattle.std.proofs.Common.{arith}
use Rattle.std.proofs.lemmas.Grind.{common_steps}
use Rattle.bq_source_lexer.proofs.place.Lexer.skip.Goals as goal

pub overflow_add-self : goal.overflow_add-self
overflow_add-self c = grind (arith, common_steps)

pub overflow_cast-self : goal.overflow_cast-self
overflow_cast-self c = grind (arith, common_steps)

pub overflow_add-self-2 : goal.overflow_add-self-2
overflow_add-self-2 c = grind (arith, common_steps)

pub invariant_of-self : goal.invariant_of-self
invariant_of-self c = grind (arith, common_steps)

pub returns : goal.returns
returns c = grind (arith, common_steps)
