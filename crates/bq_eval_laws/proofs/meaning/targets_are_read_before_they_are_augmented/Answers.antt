use Rattle.bq_eval_laws.proofs.Updating.{names, places}
use Rattle.bq_eval_laws.proofs.meaning.targets_are_read_before_they_are_augmented.Goals as goal

pub returns-clause-names : goal.returns-clause-names
returns-clause-names c k m scoping = names m scoping

pub returns-clause-places : goal.returns-clause-places
returns-clause-places c k m scoping = places m scoping
