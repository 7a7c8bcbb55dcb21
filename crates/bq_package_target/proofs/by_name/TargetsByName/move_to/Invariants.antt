use Rattle.std.proofs.Common.{◌≡◌, ◌++◌}
use Rattle.std.specs.Vec.Iter.{into_iter_items}
use Rattle.bq_package_target.specs.ByName.{targets_of}
use Rattle.bq_package_target.proofs.by_name.TargetsByName.move_to.Given as goal

abbrev pub invariant-loop-each : goal.invariant-loop-each
invariant-loop-each l = l.all.items ++ targets_of (into_iter_items l.each-iterator) ≡ l.initial.all.items ++ targets_of (into_iter_items l.initial.each-iterator)
