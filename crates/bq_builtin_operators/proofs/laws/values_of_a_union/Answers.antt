use Rattle.bq_builtin_operators.proofs.Unions.{found_union}
use Rattle.bq_builtin_operators.proofs.laws.values_of_a_union.Goals as goal

pub returns : goal.returns
returns c = found_union
