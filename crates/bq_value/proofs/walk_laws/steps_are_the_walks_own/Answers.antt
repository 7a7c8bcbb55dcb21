use Rattle.bq_value.proofs.Counting.{equal_takes, order_takes}
use Rattle.bq_value.proofs.KeySteps.{key_takes}
use Rattle.bq_value.proofs.walk_laws.steps_are_the_walks_own.Goals as goal

pub returns-clause-equality : goal.returns-clause-equality
returns-clause-equality c = equal_takes 64

pub returns-clause-order : goal.returns-clause-order
returns-clause-order c = order_takes 64

pub returns-clause-key : goal.returns-clause-key
returns-clause-key c v = key_takes v 64 v
