use Rattle.bq_builtin.proofs.Answered.{numbered_at}
use Rattle.bq_builtin.proofs.laws.enumerate_counts_from_the_start.Goals as goal

pub returns : goal.returns
returns c = numbered_at
