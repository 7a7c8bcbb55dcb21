-- what is left to write completes the text
use Rattle.std.proofs.Common.{◌≡◌, ◌∷◌, ◌++◌, drop}
use Rattle.bq_source.specs.StringLiteral.{quoted_body}
use Rattle.bq_eval.proofs.ending.quoted.Given as goal

abbrev pub invariant-loop-byte : goal.invariant-loop-byte
invariant-loop-byte l = l.text.items ++ quoted_body (drop l.byte-index l.bytes) ≡ 34 ∷ quoted_body l.bytes
