use Rattle.std.proofs.Common.{◌≡◌, drop}
use Rattle.bq_resolve_scope.specs.Names.{with_each, with_clause}
use Rattle.bq_resolve_scope.proofs.binding.add_clauses.Given as goal

abbrev pub invariant-loop-clause : goal.invariant-loop-clause
invariant-loop-clause l = with_each with_clause l.names (drop l.clause-index l.clauses) ≡ with_each with_clause l.fn.names l.clauses
