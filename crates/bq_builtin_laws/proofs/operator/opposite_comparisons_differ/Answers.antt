use Rattle.bq_builtin_laws.proofs.Operators.Comparisons.{opposites}
use Rattle.bq_builtin_laws.proofs.operator.opposite_comparisons_differ.Goals as goal

pub returns : goal.returns
returns c = opposites
