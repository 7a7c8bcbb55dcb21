use Rattle.bq_eval_laws.proofs.Collecting.{elements, clauses_nest}
use Rattle.bq_eval_laws.proofs.meaning.comprehensions_take_elements_in_order.Goals as goal

pub returns-clause-elements : goal.returns-clause-elements
returns-clause-elements c k m scoping = elements m scoping

pub returns-clause-clauses : goal.returns-clause-clauses
returns-clause-clauses c k m scoping = clauses_nest m scoping
