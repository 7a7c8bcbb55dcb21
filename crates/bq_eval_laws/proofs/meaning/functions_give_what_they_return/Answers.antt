use Rattle.bq_eval_laws.proofs.Flowing.{results, defaults}
use Rattle.bq_eval_laws.proofs.meaning.functions_give_what_they_return.Goals as goal

pub returns-clause-results : goal.returns-clause-results
returns-clause-results c k m scoping = results m scoping

pub returns-clause-defaults : goal.returns-clause-defaults
returns-clause-defaults c k m scoping = defaults m scoping
