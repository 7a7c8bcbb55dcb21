use Rattle.std.proofs.Common.{◌≡◌, [], drop, length, take}
use Rattle.bq_resolve.specs.Inner.{inner}
use Rattle.bq_resolve_scope.specs.Visit.{each}
use Rattle.bq_resolve.proofs.blocks.BlockResolver.block.Given as goal

abbrev pub invariant-loop-at : goal.invariant-loop-at
invariant-loop-at g l = (l.at-end ≡ length l.statements) × (each (inner l.self.scope l.self.layers l.looping) (take l.at l.statements) (drop l.at l.statements) l.walk ≡ each (inner l.self.scope l.self.layers l.looping) [] l.fn.statements l.fn.walk)
