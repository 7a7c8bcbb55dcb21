use Rattle.std.proofs.Common.{◌≡◌, drop}
use Rattle.bq_resolve_scope.specs.Names.{with_each, with_parameter}
use Rattle.bq_resolve_scope.proofs.binding.add_parameters.Given as goal

abbrev pub invariant-loop-parameter : goal.invariant-loop-parameter
invariant-loop-parameter l = with_each with_parameter l.names (drop l.parameter-index l.parameters) ≡ with_each with_parameter l.fn.names l.parameters
