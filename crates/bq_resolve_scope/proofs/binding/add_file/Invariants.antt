use Rattle.std.proofs.Common.{◌≡◌, drop}
use Rattle.bq_resolve_scope.specs.Names.{with_each, with_stmt}
use Rattle.bq_resolve_scope.proofs.binding.add_file.Given as goal

abbrev pub invariant-loop-statement : goal.invariant-loop-statement
invariant-loop-statement l = with_each (λ names t. with_stmt names t.statement) l.names (drop l.statement-index l.file) ≡ with_each (λ names t. with_stmt names t.statement) l.fn.names l.file
