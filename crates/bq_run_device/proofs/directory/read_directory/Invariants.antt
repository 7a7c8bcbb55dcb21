use Rattle.std.proofs.Common.{◌≡◌}
use Rattle.bq_run_device.specs.Walk.{KeepsLimit}
use Rattle.bq_run_device.proofs.directory.read_directory.Given as goal

abbrev pub invariant-loop : goal.invariant-loop
invariant-loop g l = record {
  keeps : KeepsLimit l.walk;
  limits : l.walk.limits ≡ l.fn.limits;
}

abbrev pub invariant-loop-entry : goal.invariant-loop-entry
invariant-loop-entry g l = record {
  can_next : (goal.iterator-loop-entry g).can_next l.entry-iterator;
  finite : (goal.iterator-loop-entry g).is_finite l.entry-iterator;
  keeps : KeepsLimit l.walk;
  limits : l.walk.limits ≡ l.fn.limits;
}
