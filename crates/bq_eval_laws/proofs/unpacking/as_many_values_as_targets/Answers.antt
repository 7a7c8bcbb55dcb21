use Rattle.bq_eval_laws.proofs.Parts.{parts_taken, another_number_refused, no_iterable_refused}
use Rattle.bq_eval_laws.proofs.unpacking.as_many_values_as_targets.Goals as goal

pub returns-clause-taken : goal.returns-clause-taken
returns-clause-taken c = parts_taken

pub returns-clause-another_number : goal.returns-clause-another_number
returns-clause-another_number c = another_number_refused

pub returns-clause-no_iterable : goal.returns-clause-no_iterable
returns-clause-no_iterable c = no_iterable_refused
