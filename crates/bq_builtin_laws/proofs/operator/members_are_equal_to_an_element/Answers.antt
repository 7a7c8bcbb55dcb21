use Rattle.bq_builtin_laws.proofs.Operators.Members.{members}
use Rattle.bq_builtin_laws.proofs.operator.members_are_equal_to_an_element.Goals as goal

pub returns : goal.returns
returns c = members
