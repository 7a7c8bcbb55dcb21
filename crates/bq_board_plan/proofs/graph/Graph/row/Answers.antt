use Rattle.std.proofs.Common.{arith}
use Rattle.std.proofs.lemmas.Grind.{common_steps}
use Rattle.bq_board_plan.proofs.graph.Graph.row.Goals as goal

pub returns-clause-row : goal.returns-clause-row
returns-clause-row c = grind (arith, common_steps)
