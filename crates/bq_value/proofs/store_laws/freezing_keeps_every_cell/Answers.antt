use Rattle.bq_value.proofs.Freezes.{frozen_keeps}
use Rattle.bq_value.proofs.store_laws.freezing_keeps_every_cell.Goals as goal

pub returns : goal.returns
returns c = frozen_keeps
