-- Literals that are read at once: in two double quotes, with bytes that stand for themselves between them.
use Rattle.std.specs.Prelude.{◌≡◌, ℕ, List, take, Some, None}
use Rattle.bq_source.specs.StringLiteral.{scan_string}
use Rattle.bq_source.specs.Lexis.{newlines}

-- The text begins with a literal of this length, in one line and without a bad escape.
pub record IsPlainString (text : List ℕ) (n : ℕ) : Type 0 where
  pub literal : scan_string text ≡ Some (record { len = n; bad_escape = None })
  pub lines : newlines (take n text) ≡ 0
