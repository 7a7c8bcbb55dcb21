use Rattle.std.proofs.Common.{List, ℕ, subst}
use Rattle.bq_query_graph.specs.Paths.{AreBelow}
use Rattle.bq_query_graph.proofs.graph.DependencyGraph.len.Goals as goal

pub returns-clause-below : goal.returns-clause-below
returns-clause-below c = subst (λ (g : List (List ℕ)). AreBelow g) c.self.view_is c.len.ensures.below
