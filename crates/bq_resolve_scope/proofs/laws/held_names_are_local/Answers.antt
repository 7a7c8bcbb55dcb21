use Rattle.bq_resolve_scope.proofs.Uses.{held_local}
use Rattle.bq_resolve_scope.proofs.laws.held_names_are_local.Goals as goal

pub returns : goal.returns
returns c = held_local
