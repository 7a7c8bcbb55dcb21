use Rattle.bq_resolve_scope.proofs.Uses.{stands_for_one}
use Rattle.bq_resolve_scope.proofs.laws.each_use_stands_for_one.Goals as goal

pub returns : goal.returns
returns c = stands_for_one
