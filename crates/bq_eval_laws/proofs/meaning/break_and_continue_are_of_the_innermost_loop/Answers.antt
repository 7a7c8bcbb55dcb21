use Rattle.bq_eval_laws.proofs.Flowing.{fors, loops, bodies, ends_no_other}
use Rattle.bq_eval_laws.proofs.meaning.break_and_continue_are_of_the_innermost_loop.Goals as goal

pub returns-clause-fors : goal.returns-clause-fors
returns-clause-fors c k m scoping = fors m scoping

pub returns-clause-loops : goal.returns-clause-loops
returns-clause-loops c k m scoping = loops m scoping

pub returns-clause-bodies : goal.returns-clause-bodies
returns-clause-bodies c k m scoping = bodies m scoping

pub returns-clause-innermost : goal.returns-clause-innermost
returns-clause-innermost c k m scoping = ends_no_other m scoping
