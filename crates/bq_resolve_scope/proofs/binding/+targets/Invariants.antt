use Rattle.std.proofs.Common.{◌≡◌, ◌+◌, ◌*◌, drop}
use Rattle.bq_resolve_scope.specs.Names.{with_each, with_target_to}
use Rattle.bq_resolve_scope.proofs.binding.+targets.Given as goal

abbrev pub invariant-add_targets_to-loop-target : goal.invariant-add_targets_to-loop-target
invariant-add_targets_to-loop-target l = with_each (with_target_to l.depth) l.names (drop l.target-index l.targets) ≡ with_each (with_target_to l.depth) l.fn.names l.targets

abbrev pub decreases-add_targets_to : goal.decreases-add_targets_to
decreases-add_targets_to l = 2 * l.depth + 1

abbrev pub decreases-add_target_to : goal.decreases-add_target_to
decreases-add_target_to l = 2 * l.depth
