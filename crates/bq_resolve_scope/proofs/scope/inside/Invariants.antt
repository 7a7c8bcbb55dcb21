use Rattle.std.proofs.Common.{◌≡◌, ◌∷◌, take}
use Rattle.bq_resolve_scope.proofs.scope.inside.Given as goal

abbrev pub invariant-loop-outer : goal.invariant-loop-outer
invariant-loop-outer l = l.all.items ≡ l.fn.block ∷ take l.outer-index l.blocks
