use Rattle.std.proofs.Common.{◌≡◌, ◌≤◌, length}
use Rattle.bq_builtin_format.specs.Piece.{literal, pieces}
use Rattle.bq_builtin_format.proofs.piece.write_literal.Given as goal

-- what is left gives what the format gives
abbrev pub invariant-loop-rest : goal.invariant-loop-rest
invariant-loop-rest l = (literal l.initial.draft (pieces l.format) ≡ literal l.draft (pieces l.rest)) × (length l.rest ≤ length l.format)

abbrev pub decreases-loop-rest : goal.decreases-loop-rest
decreases-loop-rest l = length l.rest
