use Rattle.std.proofs.Common.{◌≡◌, drop, length, take, []}
use Rattle.bq_resolve_scope.specs.Expressions.{expr_to}
use Rattle.bq_resolve_scope.specs.Visit.{each}
use Rattle.bq_resolve.proofs.rules.Rules.exprs.Given as goal

abbrev pub invariant-loop-at : goal.invariant-loop-at
invariant-loop-at g l = (l.at-end ≡ length l.exprs) × (each (expr_to l.self.depth l.self.scope.file.now l.self.scope.blocks.now) (take l.at l.exprs) (drop l.at l.exprs) l.walk ≡ each (expr_to l.self.depth l.self.scope.file.now l.self.scope.blocks.now) [] l.fn.exprs l.fn.walk)
