use Rattle.bq_eval_laws.proofs.Assigning.{assignments, loop_variables}
use Rattle.bq_eval_laws.proofs.meaning.parts_of_targets_take_values_in_order.Goals as goal

pub returns-clause-assignments : goal.returns-clause-assignments
returns-clause-assignments c k m scoping = assignments m scoping

pub returns-clause-variables : goal.returns-clause-variables
returns-clause-variables c k m scoping = loop_variables m scoping
