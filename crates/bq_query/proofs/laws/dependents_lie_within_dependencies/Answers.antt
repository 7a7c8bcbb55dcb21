use Rattle.bq_query.proofs.Inclusions.{lie_within}
use Rattle.bq_query.proofs.laws.dependents_lie_within_dependencies.Goals as goal

pub returns : goal.returns
returns c = lie_within
