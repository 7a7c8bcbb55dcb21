use Rattle.std.proofs.Common.{◌≤◌, length}
use Rattle.bq_load_discover.specs.Exploring.{Explores}
use Rattle.bq_load_discover.proofs.exploration.read_rest.Given as goal

abbrev pub invariant-loop : goal.invariant-loop
invariant-loop l = record {
  explores : Explores l.inputs l.exploration.found l.exploration.read.items;
  read : l.counter ≤ length l.exploration.read.items;
}
