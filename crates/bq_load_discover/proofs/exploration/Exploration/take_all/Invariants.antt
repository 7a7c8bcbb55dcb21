use Rattle.std.proofs.Common.{All}
use Rattle.bq_load_discover.specs.Exploring.{Explores}
use Rattle.bq_load_discover.specs.Waves.{IsReading}
use Rattle.bq_load_discover.proofs.exploration.Exploration.take_all.Given as goal

abbrev pub invariant-loop : goal.invariant-loop
invariant-loop l = record {
  explores : Explores l.inputs l.self.found l.self.read.items;
  readings : All (IsReading l.inputs l.self.found) l.readings.items;
}
