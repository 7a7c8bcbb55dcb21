use Rattle.bq_value_datum.specs.Folding.{read_u64}
use Rattle.bq_value_datum.proofs.folding.read_u64.Goals as goal

pub returns : goal.returns
unfolding read_u64
returns c = rw (c.read_u32.ensures, c.read_u32-2.ensures)
