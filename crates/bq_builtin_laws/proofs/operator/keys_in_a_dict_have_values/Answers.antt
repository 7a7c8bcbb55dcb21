use Rattle.bq_builtin_laws.proofs.Operators.Members.{keys_have_values}
use Rattle.bq_builtin_laws.proofs.operator.keys_in_a_dict_have_values.Goals as goal

pub returns : goal.returns
returns c = keys_have_values
