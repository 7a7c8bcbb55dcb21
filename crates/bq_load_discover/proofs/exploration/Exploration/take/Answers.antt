use Rattle.bq_load_discover.proofs.Readings.{grows}
use Rattle.bq_load_discover.proofs.exploration.Exploration.take.Goals as goal

pub returns-clause-grows : goal.returns-clause-grows
returns-clause-grows c = grows _ _ _ c.in_ok-put.ensures.found
