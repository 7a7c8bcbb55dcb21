use Rattle.std.proofs.Common.{◌≡◌, map, take}
use Rattle.bq_package_target.specs.Value.{outputs_in}
use Rattle.bq_package_target.specs.Target.{generated}
use Rattle.bq_package_target.proofs.declare.outputs.Given as goal

abbrev pub invariant-loop-given : goal.invariant-loop-given
invariant-loop-given l = l.made ≡ map (generated l.rule) (outputs_in (take l.given-index l.rule.attributes))
