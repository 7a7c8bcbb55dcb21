use Rattle.bq_package_target.proofs.Accepted.{come_first}
use Rattle.bq_package_target.proofs.laws.calls_come_first.Goals as goal

pub returns : goal.returns
returns c = come_first
