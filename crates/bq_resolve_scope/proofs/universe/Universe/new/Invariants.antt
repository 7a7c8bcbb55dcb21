use Rattle.std.proofs.Common.{◌≡◌, [], drop}
use Rattle.bq_resolve_scope.specs.Names.{with_each, with_name}
use Rattle.bq_resolve_scope.proofs.universe.Universe.new.Given as goal

abbrev pub invariant-loop-rule : goal.invariant-loop-rule
invariant-loop-rule l = with_each with_name l.names (drop l.rule-index l.rules) ≡ with_each with_name [] l.rules
