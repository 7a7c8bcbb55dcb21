-- The reading of a text as a function, for the definitions above: `every_text_has_its_reading` says that it is the only one.
use Rattle.std.specs.Prelude.{ℕ, zero, suc, ◌+◌, List, [], ◌∷◌, length, take, nat_lt, Result, Ok, Err, if◌then◌else◌}
use Rattle.bq_source.specs.declared.token.Token.{Token}
use Rattle.bq_base.specs.declared.fault.TokenFault.{TokenFault}
use Rattle.bq_base.specs.declared.fault.Fault.{Fault}
use Rattle.bq_base.specs.declared.fault.TokenFault.TheVariants as f
use Rattle.bq_base.specs.Fault.{fault_at}
use Rattle.bq_source_lexer.specs.Reading.{State, start, step, finish, max_file_bytes, line_behind}

-- what follows a step, unless that met a fault
abbrev pub by_step : (State → Result (List Token) (Fault TokenFault)) → Result State (Fault TokenFault) → Result (List Token) (Fault TokenFault)
by_step on (Ok t) = on t
by_step on (Err e) = Err e

-- the end of the text, or a step and what follows it
abbrev pub by_rest : (State → Result (List Token) (Fault TokenFault)) → List ℕ → State → Result (List Token) (Fault TokenFault)
by_rest on [] s = finish s
by_rest on (b ∷ bs) s = by_step on (step s)

-- at most this many pieces
unfoldable pub pieces : ℕ → State → Result (List Token) (Fault TokenFault)
pieces zero s = Ok []
pieces (suc n) s = by_rest (pieces n) s.rest s

-- Each piece takes a byte, so there are fewer than that.
unfoldable pub tokens_of : List ℕ → Result (List Token) (Fault TokenFault)
tokens_of text =
    if nat_lt max_file_bytes (length text) then Err (fault_at f.FileTooLong (line_behind (take max_file_bytes text)))
    else pieces (length text + 1) (start text)
