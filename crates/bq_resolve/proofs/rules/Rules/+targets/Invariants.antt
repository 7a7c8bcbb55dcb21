use Rattle.std.proofs.Common.{◌≡◌, ◌+◌, ◌*◌, [], drop, length, take}
use Rattle.bq_resolve_scope.specs.Visit.{each}
use Rattle.bq_resolve_scope.specs.Expressions.{target_to, expr_to}
use Rattle.bq_resolve.proofs.rules.Rules.+targets.Given as goal

abbrev pub invariant-targets_to-loop-at : goal.invariant-targets_to-loop-at
invariant-targets_to-loop-at g l = (l.at-end ≡ length l.targets) × (each (target_to l.self.scope.file.now (expr_to l.self.depth l.self.scope.file.now) l.layers l.self.scope.blocks.now) (take l.at l.targets) (drop l.at l.targets) l.walk ≡ each (target_to l.self.scope.file.now (expr_to l.self.depth l.self.scope.file.now) l.layers l.self.scope.blocks.now) [] l.fn.targets l.fn.walk)

abbrev pub decreases-targets_to : goal.decreases-targets_to
decreases-targets_to g l = 2 * l.layers + 1

abbrev pub decreases-target_to : goal.decreases-target_to
decreases-target_to g l = 2 * l.layers
