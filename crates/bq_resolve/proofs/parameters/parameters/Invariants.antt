use Rattle.std.proofs.Common.{◌≡◌}
use Rattle.bq_resolve_scope.specs.Statements.{no_parameters, parameters}
use Rattle.bq_resolve.proofs.parameters.parameters.Given as goal

abbrev pub invariant-loop-parameter : goal.invariant-loop-parameter
invariant-loop-parameter l = parameters l.file l.list l.parameter-iterator.rest.items l.walk ≡ parameters l.file no_parameters l.fn.parameters l.fn.walk
