use Rattle.std.proofs.Common.{◌≡◌, drop, length, take}
use Rattle.bq_parse_grammar.specs.declared.tree.Clause.{out-Clause}
use Rattle.bq_resolve_scope.specs.Expressions.{clause_by, expr_to}
use Rattle.bq_resolve_scope.specs.Visit.{each}
use Rattle.bq_resolve.proofs.rules.Rules.further_clauses.Given as goal

abbrev pub invariant-loop-at : goal.invariant-loop-at
invariant-loop-at g l = (l.at-end ≡ length l.clauses) × (each (λ x. clause_by l.self.scope.file.now (expr_to l.self.depth l.self.scope.file.now) l.self.scope.blocks.now l.self.scope.blocks.now (out-Clause x)) (take l.at l.clauses) (drop l.at l.clauses) l.walk ≡ each (λ x. clause_by l.self.scope.file.now (expr_to l.self.depth l.self.scope.file.now) l.self.scope.blocks.now l.self.scope.blocks.now (out-Clause x)) (take 1 l.fn.clauses) (drop 1 l.fn.clauses) l.fn.walk)
