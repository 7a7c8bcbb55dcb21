use Rattle.std.proofs.Common.{◌≡◌, take}
use Rattle.bq_resolve_scope.proofs.names.Names.list.Given as goal

abbrev pub invariant-loop-name : goal.invariant-loop-name
invariant-loop-name l = l.names ≡ take l.name-index l.self
