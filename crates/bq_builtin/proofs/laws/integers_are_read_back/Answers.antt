use Rattle.bq_builtin.proofs.Answered.{reads_back}
use Rattle.bq_builtin.proofs.laws.integers_are_read_back.Goals as goal

pub returns : goal.returns
returns c = reads_back
