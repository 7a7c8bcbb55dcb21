use Rattle.std.proofs.Common.{◌≡◌, drop}
use Rattle.bq_resolve_scope.specs.Names.{with_each, with_small}
use Rattle.bq_resolve_scope.proofs.binding.add_line.Given as goal

abbrev pub invariant-loop-small : goal.invariant-loop-small
invariant-loop-small l = with_each with_small l.names (drop l.small-index l.line) ≡ with_each with_small l.fn.names l.line
