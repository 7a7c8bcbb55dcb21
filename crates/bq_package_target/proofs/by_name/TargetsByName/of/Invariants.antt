use Rattle.std.proofs.Common.{◌≡◌, ◌++◌, reverse, length}
use Rattle.bq_package_target.proofs.ByNames.{placed_from}
use Rattle.bq_package_target.proofs.by_name.TargetsByName.of.Given as goal

abbrev pub invariant-loop-target : goal.invariant-loop-target
invariant-loop-target l = l.placed.items ++ reverse (placed_from 0 l.targets) ≡ reverse (placed_from 0 l.initial.targets)

abbrev pub decreases-loop-target : goal.decreases-loop-target
decreases-loop-target l = length l.targets
