use Rattle.bq_label.proofs.Owners.{owner_at}
use Rattle.bq_label.proofs.laws.the_nearest_owner.Goals as goal

pub returns : goal.returns
returns c = owner_at
