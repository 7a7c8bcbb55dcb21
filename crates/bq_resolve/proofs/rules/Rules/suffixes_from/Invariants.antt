use Rattle.std.proofs.Common.{◌≡◌, drop, length, take}
use Rattle.bq_parse_grammar.specs.declared.tree.Suffix.{out-Suffix}
use Rattle.bq_resolve_scope.specs.Expressions.{suffix_by, expr_to}
use Rattle.bq_resolve_scope.specs.Visit.{each}
use Rattle.bq_resolve.proofs.rules.Rules.suffixes_from.Given as goal

abbrev pub invariant-loop-at : goal.invariant-loop-at
invariant-loop-at g l = (l.at-end ≡ length l.suffixes) × (each (λ x. suffix_by l.self.scope.file.now (expr_to l.self.depth l.self.scope.file.now) l.self.scope.blocks.now (out-Suffix x)) (take l.at l.suffixes) (drop l.at l.suffixes) l.walk ≡ each (λ x. suffix_by l.self.scope.file.now (expr_to l.self.depth l.self.scope.file.now) l.self.scope.blocks.now (out-Suffix x)) (take l.fn.first l.fn.suffixes) (drop l.fn.first l.fn.suffixes) l.fn.walk)
