use Rattle.bq_package_target.proofs.Accepted.{accepts_distinct}
use Rattle.bq_package_target.proofs.laws.distinct_names_are_accepted.Goals as goal

pub returns : goal.returns
returns c = accepts_distinct
