use Rattle.std.proofs.Common.{◌≡◌, drop, length, take, []}
use Rattle.bq_resolve_scope.specs.Expressions.{pair, expr_to}
use Rattle.bq_resolve_scope.specs.Visit.{each}
use Rattle.bq_resolve.proofs.rules.Rules.pairs.Given as goal

abbrev pub invariant-loop-at : goal.invariant-loop-at
invariant-loop-at g l = (l.at-end ≡ length l.pairs) × (each (pair l.self.scope.file.now (expr_to l.self.depth l.self.scope.file.now) l.self.scope.blocks.now) (take l.at l.pairs) (drop l.at l.pairs) l.walk ≡ each (pair l.self.scope.file.now (expr_to l.self.depth l.self.scope.file.now) l.self.scope.blocks.now) [] l.fn.pairs l.fn.walk)
