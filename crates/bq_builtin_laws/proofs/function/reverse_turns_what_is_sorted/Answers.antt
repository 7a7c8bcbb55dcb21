use Rattle.bq_builtin_laws.proofs.Functions.Backwards.{backwards}
use Rattle.bq_builtin_laws.proofs.function.reverse_turns_what_is_sorted.Goals as goal

pub returns : goal.returns
returns c = backwards
