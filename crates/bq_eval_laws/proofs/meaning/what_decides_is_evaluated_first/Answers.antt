use Rattle.bq_eval_laws.proofs.InOrder.{conditions, right_sides, iterables}
use Rattle.bq_eval_laws.proofs.Deciding.{left_sides, branch_conditions, filters, variables, clauses_first}
use Rattle.bq_eval_laws.proofs.meaning.what_decides_is_evaluated_first.Goals as goal

pub returns-clause-sides : goal.returns-clause-sides
returns-clause-sides c k m scoping = left_sides m scoping

pub returns-clause-conditions : goal.returns-clause-conditions
returns-clause-conditions c k m scoping = conditions m scoping

pub returns-clause-branches : goal.returns-clause-branches
returns-clause-branches c k m scoping = branch_conditions m scoping

pub returns-clause-assignments : goal.returns-clause-assignments
returns-clause-assignments c k m scoping = right_sides m scoping

pub returns-clause-comprehensions : goal.returns-clause-comprehensions
returns-clause-comprehensions c k m scoping = iterables m scoping

pub returns-clause-clauses : goal.returns-clause-clauses
returns-clause-clauses c k m scoping = clauses_first m scoping

pub returns-clause-variables : goal.returns-clause-variables
returns-clause-variables c k m scoping = variables m scoping

pub returns-clause-filters : goal.returns-clause-filters
returns-clause-filters c k m scoping = filters m scoping
