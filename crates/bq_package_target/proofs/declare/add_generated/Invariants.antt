use Rattle.std.proofs.Common.{◌≡◌, ◌++◌, map, take}
use Rattle.bq_package_target.specs.Target.{generated}
use Rattle.bq_package_target.proofs.declare.add_generated.Given as goal

abbrev pub invariant-loop-label : goal.invariant-loop-label
invariant-loop-label l = l.made ≡ l.fn.made ++ map (generated l.rule) (take l.label-index l.labels)
