use Rattle.std.proofs.Common.{◌≡◌, drop}
use Rattle.bq_resolve_scope.specs.Names.{with_each, with_stmt}
use Rattle.bq_resolve_scope.proofs.binding.add_body.Given as goal

abbrev pub invariant-loop-statement : goal.invariant-loop-statement
invariant-loop-statement l = with_each with_stmt l.names (drop l.statement-index l.body) ≡ with_each with_stmt l.fn.names l.body
