use Rattle.bq_query.proofs.Inclusions.{keep}
use Rattle.bq_query.proofs.laws.patterns_keep_members.Goals as goal

pub returns : goal.returns
returns c = keep
