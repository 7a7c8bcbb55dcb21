use Rattle.bq_resolve_scope.proofs.Examples.{examples}
use Rattle.bq_resolve_scope.proofs.laws.files_resolve_by_hand.Goals as goal

pub returns : goal.returns
returns c = examples
