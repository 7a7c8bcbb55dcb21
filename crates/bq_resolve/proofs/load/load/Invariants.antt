use Rattle.std.proofs.Common.{◌≡◌, [], drop}
use Rattle.bq_resolve_scope.specs.Visit.{each}
use Rattle.bq_resolve_scope.specs.Statements.{load_clause}
use Rattle.bq_resolve.proofs.load.load.Given as goal

abbrev pub invariant-loop-clause : goal.invariant-loop-clause
invariant-loop-clause l = each (load_clause l.file) l.clauses (drop l.clause-index l.clause-items) l.walk ≡ each (load_clause l.file) [] l.clause-items l.fn.walk
