use Rattle.std.proofs.Common.{arith}
use Rattle.std.proofs.lemmas.Grind.{common_steps}
use Rattle.bq_query_graph.proofs.sets.intersection.Goals as goal

pub returns : goal.returns
returns c = grind (arith, common_steps)
