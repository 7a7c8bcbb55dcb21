use Rattle.bq_value.proofs.Orders.{equal_keys}
use Rattle.bq_value.proofs.walk_laws.equal_keys_are_one.Goals as goal

pub returns : goal.returns
returns c = equal_keys
