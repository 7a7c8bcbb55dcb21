use Rattle.bq_resolve_scope.proofs.Uses.{blocks_apart}
use Rattle.bq_resolve_scope.proofs.laws.blocks_have_slots_of_their_own.Goals as goal

pub returns : goal.returns
returns c = blocks_apart
