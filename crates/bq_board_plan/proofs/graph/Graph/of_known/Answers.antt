use Rattle.std.proofs.Common.{arith}
use Rattle.std.proofs.lemmas.Grind.{common_steps}
use Rattle.bq_board_plan.proofs.graph.Graph.of_known.Goals as goal

pub invariant_of-result : goal.invariant_of-result
invariant_of-result c = grind (arith, common_steps, c.requires.bounded.modules, c.requires.bounded.edges)

pub returns-clause-valid : goal.returns-clause-valid
returns-clause-valid c = grind (arith, common_steps, c.requires.bounded.modules, c.requires.bounded.edges)

pub returns-clause-fits : goal.returns-clause-fits
returns-clause-fits c = grind (arith, common_steps)
