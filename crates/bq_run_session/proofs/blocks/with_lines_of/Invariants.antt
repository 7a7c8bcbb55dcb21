use Rattle.std.proofs.Common.{◌≡◌, ◌+◌, drop}
use Rattle.std.specs.List.{concat}
use Rattle.bq_run_session.specs.Block.{line_count}
use Rattle.bq_run_session.proofs.blocks.with_lines_of.Given as goal

-- what is counted, and what is left
abbrev pub invariant-loop-piece : goal.invariant-loop-piece
invariant-loop-piece l = l.count + line_count (concat (drop l.piece-index l.pieces)) ≡ l.before + line_count (concat l.pieces)
