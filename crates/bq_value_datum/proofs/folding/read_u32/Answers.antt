use Rattle.bq_value_datum.specs.Folding.{read_u32}
use Rattle.bq_value_datum.proofs.folding.read_u32.Goals as goal

pub returns : goal.returns
unfolding read_u32
returns c = c.from_le_bytes.ensures
