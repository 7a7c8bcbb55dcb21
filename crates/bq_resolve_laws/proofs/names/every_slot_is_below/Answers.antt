use Rattle.bq_resolve_laws.proofs.Files.{every_slot}
use Rattle.bq_resolve_laws.proofs.names.every_slot_is_below.Goals as goal

pub returns : goal.returns
returns c = every_slot
