use Rattle.bq_builtin.proofs.Answered.{counts}
use Rattle.bq_builtin.proofs.laws.lengths_count_elements.Goals as goal

pub returns : goal.returns
returns c = counts
