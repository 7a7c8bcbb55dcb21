use Rattle.bq_eval_laws.proofs.Stepping.{expressions, small_statements, statements, turns, defs}
use Rattle.bq_eval_laws.proofs.meaning.steps_come_first.Goals as goal

pub returns-clause-expressions : goal.returns-clause-expressions
returns-clause-expressions c k m scoping = expressions m scoping

pub returns-clause-small : goal.returns-clause-small
returns-clause-small c k m scoping = small_statements m scoping

pub returns-clause-statements : goal.returns-clause-statements
returns-clause-statements c k m scoping = statements m scoping

pub returns-clause-turns : goal.returns-clause-turns
returns-clause-turns c k m scoping = turns m scoping

pub returns-clause-defs : goal.returns-clause-defs
returns-clause-defs c k m scoping = defs m scoping
