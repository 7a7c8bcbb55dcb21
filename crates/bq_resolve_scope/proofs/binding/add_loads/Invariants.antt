use Rattle.std.proofs.Common.{◌≡◌, drop}
use Rattle.bq_resolve_scope.specs.Names.{with_each, with_load, with_load_clause}
use Rattle.bq_resolve_scope.proofs.binding.add_loads.Given as goal

abbrev pub invariant-loop-statement : goal.invariant-loop-statement
invariant-loop-statement l = with_each with_load l.names (drop l.statement-index l.line) ≡ with_each with_load l.fn.names l.line

abbrev pub invariant-loop-clause : goal.invariant-loop-clause
invariant-loop-clause l = with_each with_load_clause l.names (drop l.clause-index l.clause-items) ≡ with_each with_load_clause l.initial.names l.clause-items
