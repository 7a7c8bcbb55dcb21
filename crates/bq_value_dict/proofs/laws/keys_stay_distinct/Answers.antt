use Rattle.bq_value_dict.proofs.Puts.{once_put, once_without}
use Rattle.bq_value_dict.proofs.laws.keys_stay_distinct.Goals as goal

pub returns-clause-put : goal.returns-clause-put
returns-clause-put c = once_put

pub returns-clause-without : goal.returns-clause-without
returns-clause-without c = once_without
