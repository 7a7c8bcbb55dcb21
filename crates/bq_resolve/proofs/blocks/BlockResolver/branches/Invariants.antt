use Rattle.std.proofs.Common.{◌≡◌, [], drop, length, take}
use Rattle.bq_resolve_scope.specs.Statements.{branch}
use Rattle.bq_resolve.specs.Inner.{inner}
use Rattle.bq_resolve_scope.specs.Visit.{each}
use Rattle.bq_resolve.proofs.blocks.BlockResolver.branches.Given as goal

abbrev pub invariant-loop-at : goal.invariant-loop-at
invariant-loop-at g l = (l.at-end ≡ length l.branches) × (each (branch l.self.scope.file.now (inner l.self.scope l.self.layers l.looping) l.self.scope.blocks.now) (take l.at l.branches) (drop l.at l.branches) l.walk ≡ each (branch l.self.scope.file.now (inner l.self.scope l.self.layers l.looping) l.self.scope.blocks.now) [] l.fn.branches l.fn.walk)
