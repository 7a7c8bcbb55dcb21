use Rattle.bq_builtin_laws.proofs.Steps.Operators.{unary_owns, binary_owns, compare_owns, index_owns, slice_owns, augment_owns, set_index_owns}
use Rattle.bq_builtin_laws.proofs.step.operators_take_their_steps.Goals as goal

pub returns-clause-operators : goal.returns-clause-operators
returns-clause-operators c = (unary_owns, binary_owns, compare_owns)

pub returns-clause-items : goal.returns-clause-items
returns-clause-items c = (index_owns, slice_owns)

pub returns-clause-changes : goal.returns-clause-changes
returns-clause-changes c = (augment_owns, set_index_owns)
