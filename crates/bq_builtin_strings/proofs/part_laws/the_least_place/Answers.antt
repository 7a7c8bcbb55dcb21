use Rattle.bq_builtin_strings.proofs.Places.{find_least}
use Rattle.bq_builtin_strings.proofs.part_laws.the_least_place.Goals as goal

pub returns : goal.returns
returns c = find_least
