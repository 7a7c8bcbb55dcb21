-- what is left to write completes the text
use Rattle.std.proofs.Common.{◌≡◌, ◌∷◌, drop}
use Rattle.bq_source.specs.StringLiteral.{quoted_body}
use Rattle.bq_value_text.specs.Page.{written}
use Rattle.bq_value_text.proofs.quoted.write_quoted.Given as goal

abbrev pub invariant-loop-byte : goal.invariant-loop-byte
invariant-loop-byte l = written l.fn.page (34 ∷ quoted_body l.bytes) ≡ written l.page (quoted_body (drop l.byte-index l.bytes))
