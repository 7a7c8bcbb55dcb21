use Rattle.bq_builtin_laws.proofs.Functions.Reversed.{mirrored, twice}
use Rattle.bq_builtin_laws.proofs.function.reversed_lists_go_backwards.Goals as goal

pub returns-clause-places : goal.returns-clause-places
returns-clause-places c = mirrored

pub returns-clause-twice : goal.returns-clause-twice
returns-clause-twice c = twice
