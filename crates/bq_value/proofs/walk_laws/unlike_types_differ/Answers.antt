use Rattle.bq_value.proofs.Orders.{unlike_differ}
use Rattle.bq_value.proofs.walk_laws.unlike_types_differ.Goals as goal

pub returns : goal.returns
returns c = unlike_differ
