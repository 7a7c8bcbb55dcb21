use Rattle.bq_builtin_laws.proofs.Functions.Prints.{with_space, with_separator}
use Rattle.bq_builtin_laws.proofs.function.prints_have_the_separator_between.Goals as goal

pub returns-clause-space : goal.returns-clause-space
returns-clause-space c = with_space

pub returns-clause-sep : goal.returns-clause-sep
returns-clause-sep c = with_separator
