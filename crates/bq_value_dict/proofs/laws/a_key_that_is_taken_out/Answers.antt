use Rattle.bq_value_dict.proofs.Puts.{taken, absent}
use Rattle.bq_value_dict.proofs.laws.a_key_that_is_taken_out.Goals as goal

pub returns-clause-there : goal.returns-clause-there
returns-clause-there c = taken

pub returns-clause-absent : goal.returns-clause-absent
returns-clause-absent c = absent
