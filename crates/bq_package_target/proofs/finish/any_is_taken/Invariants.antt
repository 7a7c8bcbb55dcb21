use Rattle.std.proofs.Common.{◌≡◌, drop}
use Rattle.std.specs.List.{list_any}
use Rattle.bq_package_target.specs.Package.{is_taken}
use Rattle.bq_package_target.proofs.finish.any_is_taken.Given as goal

abbrev pub invariant-loop-label : goal.invariant-loop-label
invariant-loop-label l = list_any (is_taken l.targets) l.labels ≡ list_any (is_taken l.targets) (drop l.label-index l.labels)
