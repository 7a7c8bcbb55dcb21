use Rattle.bq_resolve_scope.proofs.Uses.{names_apart}
use Rattle.bq_resolve_scope.proofs.laws.names_have_slots_of_their_own.Goals as goal

pub returns : goal.returns
returns c = names_apart
