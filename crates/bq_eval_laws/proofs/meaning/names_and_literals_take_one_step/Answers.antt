use Rattle.bq_eval_laws.proofs.Stepping.{names, literals}
use Rattle.bq_eval_laws.proofs.meaning.names_and_literals_take_one_step.Goals as goal

pub returns-clause-names : goal.returns-clause-names
returns-clause-names c k m scoping = names m scoping

pub returns-clause-literals : goal.returns-clause-literals
returns-clause-literals c k m scoping = literals m scoping
