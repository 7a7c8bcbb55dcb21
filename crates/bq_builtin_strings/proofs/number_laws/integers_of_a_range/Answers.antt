use Rattle.bq_builtin_strings.proofs.RangeMembers.{has_elements}
use Rattle.bq_builtin_strings.proofs.number_laws.integers_of_a_range.Goals as goal

pub returns : goal.returns
returns c = has_elements
