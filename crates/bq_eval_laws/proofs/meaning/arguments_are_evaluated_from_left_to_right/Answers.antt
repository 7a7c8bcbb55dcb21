use Rattle.bq_eval_laws.proofs.Passing.{calls_in_order, calls_stop, operands_of_suffixes, members_in_order, suffixes_in_order}
use Rattle.bq_eval_laws.proofs.meaning.arguments_are_evaluated_from_left_to_right.Goals as goal

pub returns-clause-arguments : goal.returns-clause-arguments
returns-clause-arguments c k m scoping = calls_in_order m scoping

pub returns-clause-stops : goal.returns-clause-stops
returns-clause-stops c k m scoping = calls_stop m scoping

pub returns-clause-operands : goal.returns-clause-operands
returns-clause-operands c k m scoping = operands_of_suffixes m scoping

pub returns-clause-members : goal.returns-clause-members
returns-clause-members c k m scoping = members_in_order m scoping

pub returns-clause-suffixes : goal.returns-clause-suffixes
returns-clause-suffixes c k m scoping = suffixes_in_order m scoping
