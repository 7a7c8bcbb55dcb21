-- What is written of a text: its bytes, or none once they are more than a text may have.
use Rattle.std.specs.Prelude.{ℕ, ◌+◌, nat_le, Bool, true, false, cond, List, ◌++◌, length, Option, Some, None, Result, Ok, Err}
use Rattle.bq_base.specs.declared.fault.EvalFault.{EvalFault}
use Rattle.bq_base.specs.declared.fault.EvalFault.TheVariants.{TooLong}

-- a text that is being written; none once it was too long
abbrev pub PageView : Type 0
PageView = Option (List ℕ)

-- what is written, by its bytes: none where they were too many
abbrev pub page_of : Bool → List ℕ → PageView
page_of true bytes = None
page_of false bytes = Some bytes

-- the most bytes of a text
abbrev pub max_text : ℕ
max_text = 1048576

-- these bytes after what is written
unfoldable pub written : PageView → List ℕ → PageView
written None bytes = None
written (Some text) bytes = cond (nat_le (length text + length bytes) max_text) (Some (text ++ bytes)) None

-- the text, or F54
abbrev pub finished : PageView → Result (List ℕ) EvalFault
finished (Some text) = Ok text
finished None = Err TooLong
