use Rattle.bq_package_target.proofs.Accepted.{keeps_order}
use Rattle.bq_package_target.proofs.laws.calls_keep_their_order.Goals as goal

pub returns : goal.returns
returns c = keeps_order
