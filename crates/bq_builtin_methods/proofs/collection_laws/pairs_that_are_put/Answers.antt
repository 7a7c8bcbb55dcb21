use Rattle.bq_builtin_methods.proofs.Updates.{found_last, places_kept}
use Rattle.bq_builtin_methods.proofs.collection_laws.pairs_that_are_put.Goals as goal

pub returns-clause-values : goal.returns-clause-values
returns-clause-values c = found_last

pub returns-clause-places : goal.returns-clause-places
returns-clause-places c = places_kept
