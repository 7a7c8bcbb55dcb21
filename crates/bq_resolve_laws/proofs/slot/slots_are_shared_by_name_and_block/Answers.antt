use Rattle.bq_resolve_laws.proofs.Slots.Files.{slots_are_shared}
use Rattle.bq_resolve_laws.proofs.slot.slots_are_shared_by_name_and_block.Goals as goal

pub returns : goal.returns
returns c universe ts r h = slots_are_shared universe ts r h
