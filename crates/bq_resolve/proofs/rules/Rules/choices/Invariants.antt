use Rattle.std.proofs.Common.{◌≡◌, drop, length, take, []}
use Rattle.bq_resolve_scope.specs.Expressions.{choice, expr_to}
use Rattle.bq_resolve_scope.specs.Visit.{each}
use Rattle.bq_resolve.proofs.rules.Rules.choices.Given as goal

abbrev pub invariant-loop-at : goal.invariant-loop-at
invariant-loop-at g l = (l.at-end ≡ length l.choices) × (each (choice l.self.scope.file.now (expr_to l.self.depth l.self.scope.file.now) l.self.scope.blocks.now) (take l.at l.choices) (drop l.at l.choices) l.walk ≡ each (choice l.self.scope.file.now (expr_to l.self.depth l.self.scope.file.now) l.self.scope.blocks.now) [] l.fn.choices l.fn.walk)
