use Rattle.bq_builtin_strings.proofs.Slices.{places_within}
use Rattle.bq_builtin_strings.proofs.number_laws.places_of_a_slice.Goals as goal

pub returns : goal.returns
returns c = places_within
