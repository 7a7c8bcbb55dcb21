use Rattle.std.proofs.Common.{◌≡◌, length}
use Rattle.bq_load_changes.specs.Same.{HaveStayed}
use Rattle.bq_load_changes.proofs.same.Change.numbers_before.Given as goal

abbrev pub invariant-loop-m : goal.invariant-loop-m
invariant-loop-m l = (length l.was.items ≡ l.m) × HaveStayed l.self.before.now l.self.after.now l.touched l.had l.labels l.was.items
