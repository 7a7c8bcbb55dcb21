use Rattle.std.proofs.Common.{◌≡◌, drop, length, take, []}
use Rattle.bq_resolve_scope.specs.Expressions.{operation, expr_to}
use Rattle.bq_resolve_scope.specs.Visit.{each}
use Rattle.bq_resolve.proofs.rules.Rules.operations.Given as goal

abbrev pub invariant-loop-at : goal.invariant-loop-at
invariant-loop-at g l = (l.at-end ≡ length l.operations) × (each (operation l.self.scope.file.now (expr_to l.self.depth l.self.scope.file.now) l.self.scope.blocks.now) (take l.at l.operations) (drop l.at l.operations) l.walk ≡ each (operation l.self.scope.file.now (expr_to l.self.depth l.self.scope.file.now) l.self.scope.blocks.now) [] l.fn.operations l.fn.walk)
