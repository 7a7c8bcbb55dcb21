use Rattle.std.proofs.Common.{◌≡◌, ◌++◌, take}
use Rattle.bq_package_target.specs.ByName.{targets_of}
use Rattle.bq_package_target.proofs.by_name.TargetsByName.share_to.Given as goal

abbrev pub invariant-loop-each : goal.invariant-loop-each
invariant-loop-each l = l.all.items ≡ l.initial.all.items ++ targets_of (take l.each-index l.placed)
