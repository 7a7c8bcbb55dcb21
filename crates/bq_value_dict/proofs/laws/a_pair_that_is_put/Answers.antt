use Rattle.bq_value_datum.specs.SameLaws.{same_apart}
use Rattle.bq_value_dict.proofs.Puts.{found_put, other_put}
use Rattle.bq_value_dict.proofs.laws.a_pair_that_is_put.Goals as goal

pub returns-clause-value : goal.returns-clause-value
returns-clause-value c = found_put

pub returns-clause-others : goal.returns-clause-others
returns-clause-others c j k v pairs apart = other_put j k v pairs (same_apart j k apart)
