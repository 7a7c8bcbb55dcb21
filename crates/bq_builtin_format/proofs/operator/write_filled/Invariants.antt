use Rattle.std.proofs.Common.{◌≡◌, length}
use Rattle.bq_builtin_format.specs.Percent.{filled}
use Rattle.bq_builtin_format.proofs.operator.write_filled.Given as goal

-- what is left gives what all gives
abbrev pub invariant-loop-before : goal.invariant-loop-before
invariant-loop-before l = filled (length l.format) l.store l.fn.draft l.steps l.values l.format ≡ filled (length l.rest) l.store l.draft l.left l.next l.rest

abbrev pub decreases-loop-before : goal.decreases-loop-before
decreases-loop-before l = length l.rest
