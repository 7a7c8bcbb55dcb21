-- The first fault of a chain is that of its first faulty operand.
use Rattle.std.proofs.Common.{◌≡◌, List, [], ◌∷◌, Some, ap}
use Rattle.std.specs.Option.{option_or}
use Rattle.bq_query_lex.specs.declared.query_error.QueryErr.{QueryErr}
use Rattle.bq_query_target_graph.specs.Graph.{GraphParts}
use Rattle.bq_query_check.specs.Formula.{Formula, combined, Step, chained}
use Rattle.bq_query.specs.Faults.{fault_in}

pub fault_stays : (w : GraphParts) (x : Formula) (os : List Step) (why : QueryErr) → fault_in w x ≡ Some why → fault_in w (chained x os) ≡ Some why
fault_stays w x [] why h = h
fault_stays w x (o ∷ os) why h = fault_stays w (combined o.operator x o.formula) os why (ap (λ f. option_or f (fault_in w o.formula)) h)
