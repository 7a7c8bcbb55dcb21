use Rattle.std.proofs.Common.{◌≡◌, ◌++◌, drop}
use Rattle.std.specs.List.{concat}
use Rattle.bq_base_texts.proofs.rope.push_pieces.Given as goal

-- what is appended, and the pieces that are left
abbrev pub invariant-loop-piece : goal.invariant-loop-piece
invariant-loop-piece l = l.text.items ++ concat (drop l.piece-index l.pieces) ≡ l.fn.text.items ++ concat l.pieces
