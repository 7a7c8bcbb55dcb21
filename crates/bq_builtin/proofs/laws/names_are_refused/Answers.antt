use Rattle.bq_builtin.proofs.Answered.{names_refused}
use Rattle.bq_builtin.proofs.laws.names_are_refused.Goals as goal

pub returns : goal.returns
returns c = names_refused
