use Rattle.std.proofs.Common.{arith}
use Rattle.std.proofs.lemmas.Grind.{common_steps}
use Rattle.bq_board_plan.proofs.graph.keeps.Goals as goal

pub returns-then-rows-limits : goal.returns-then-rows-limits
returns-then-rows-limits c = grind (arith, common_steps)

pub returns : goal.returns
returns c = grind (arith, common_steps)
