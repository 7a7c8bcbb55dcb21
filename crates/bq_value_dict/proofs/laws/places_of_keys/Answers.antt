use Rattle.bq_value_dict.proofs.Puts.{keys_put}
use Rattle.bq_value_dict.proofs.laws.places_of_keys.Goals as goal

pub returns : goal.returns
returns c = keys_put
