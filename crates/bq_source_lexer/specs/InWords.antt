-- What a text reads as, in words of the text and the tokens alone: no step of the lexer is named. `the_words_give_the_reading`
-- says that the readings of a text are these.
use Rattle.std.specs.Prelude.{ℕ, ◌<◌, ◌≤◌, List, length, take, Result, Ok, Err}
use Rattle.bq_source.specs.declared.token.Token.{Token}
use Rattle.bq_base.specs.declared.fault.TokenFault.{TokenFault}
use Rattle.bq_base.specs.declared.fault.Fault.{Fault}
use Rattle.bq_base.specs.declared.fault.TokenFault.TheVariants as f
use Rattle.bq_base.specs.Fault.{fault_at}
use Rattle.bq_source_lexer.specs.Reading.{max_file_bytes, line_behind}
use Rattle.bq_source_lexer.specs.Layout.{Reads, IsFaulty}

-- A text is cut into these tokens, or is cut up to this fault. One that is too long has the fault of that, whatever is in it.
pub data InWords (text : List ℕ) : Result (List Token) (Fault TokenFault) → Type 0 where
  tokens : {ts : List Token} → length text ≤ max_file_bytes → Reads text ts → InWords text (Ok ts)
  fault : {e : Fault TokenFault} → length text ≤ max_file_bytes → IsFaulty text e → InWords text (Err e)
  too_long : max_file_bytes < length text → InWords text (Err (fault_at f.FileTooLong (line_behind (take max_file_bytes text))))
