use Rattle.std.proofs.Common.{◌≡◌, drop, length, take, []}
use Rattle.bq_parse_grammar.specs.declared.tree.Argument.{out-Argument}
use Rattle.bq_resolve_scope.specs.Expressions.{argument_by, expr_to}
use Rattle.bq_resolve_scope.specs.Visit.{each}
use Rattle.bq_resolve.proofs.rules.Rules.arguments.Given as goal

abbrev pub invariant-loop-at : goal.invariant-loop-at
invariant-loop-at g l = (l.at-end ≡ length l.arguments) × (each (λ x. argument_by l.self.scope.file.now (expr_to l.self.depth l.self.scope.file.now) l.self.scope.blocks.now (out-Argument x)) (take l.at l.arguments) (drop l.at l.arguments) l.walk ≡ each (λ x. argument_by l.self.scope.file.now (expr_to l.self.depth l.self.scope.file.now) l.self.scope.blocks.now (out-Argument x)) [] l.fn.arguments l.fn.walk)
