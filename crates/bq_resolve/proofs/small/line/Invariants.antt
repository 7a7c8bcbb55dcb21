use Rattle.std.proofs.Common.{◌≡◌, [], drop, length, take}
use Rattle.bq_resolve_scope.specs.Statements.{small_stmt}
use Rattle.bq_resolve_scope.specs.Visit.{each}
use Rattle.bq_resolve.proofs.small.line.Given as goal

abbrev pub invariant-loop-at : goal.invariant-loop-at
invariant-loop-at l = (l.at-end ≡ length l.statements) × (each (small_stmt l.scope.file.now l.scope.blocks.now l.looping) (take l.at l.statements) (drop l.at l.statements) l.walk ≡ each (small_stmt l.scope.file.now l.scope.blocks.now l.looping) [] l.fn.statements l.fn.walk)
