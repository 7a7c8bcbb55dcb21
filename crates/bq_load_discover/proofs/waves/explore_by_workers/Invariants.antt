use Rattle.bq_load_discover.specs.Exploring.{Explores}
use Rattle.bq_load_discover.proofs.waves.explore_by_workers.Given as goal

abbrev pub invariant-loop : goal.invariant-loop
invariant-loop g l = Explores l.inputs l.exploration.found l.exploration.read.items
