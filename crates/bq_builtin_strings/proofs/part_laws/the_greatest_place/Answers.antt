use Rattle.bq_builtin_strings.proofs.Places.{rfind_greatest}
use Rattle.bq_builtin_strings.proofs.part_laws.the_greatest_place.Goals as goal

pub returns : goal.returns
returns c = rfind_greatest
