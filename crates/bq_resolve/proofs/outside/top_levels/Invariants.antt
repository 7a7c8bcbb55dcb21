use Rattle.std.proofs.Common.{◌≡◌, []}
use Rattle.bq_resolve_scope.specs.Visit.{each}
use Rattle.bq_resolve_scope.specs.Files.{top_level}
use Rattle.bq_resolve.proofs.outside.top_levels.Given as goal

abbrev pub invariant-loop-statement : goal.invariant-loop-statement
invariant-loop-statement l = each (top_level l.file) l.done l.statement-iterator.rest.items l.walk ≡ each (top_level l.file) [] l.fn.statements l.fn.walk
