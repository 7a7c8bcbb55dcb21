use Rattle.std.proofs.Common.{drop}
use Rattle.bq_package_target.specs.Target.{names_of}
use Rattle.bq_package_target.proofs.Taking.{Takes}
use Rattle.bq_package_target.proofs.declare.take_names.Given as goal

abbrev pub invariant-loop-target : goal.invariant-loop-target
invariant-loop-target l = Takes l.fn.names (names_of l.targets) l.names (names_of (drop l.target-index l.targets))
