use Rattle.bq_builtin_laws.proofs.Collections.Same.{stays}
use Rattle.bq_builtin_laws.proofs.collection.lists_stay_the_same_lists.Goals as goal

pub returns : goal.returns
returns c home number xs more answer s t a = stays home number xs more a.added answer s t a.known a.elements a.run
