use Rattle.bq_builtin_strings.proofs.Separated.{separated}
use Rattle.bq_builtin_strings.proofs.part_laws.no_part_has_the_separator.Goals as goal

pub returns : goal.returns
returns c = λ separator text part most some enough among at stands. separated separator text part most some enough among at stands
