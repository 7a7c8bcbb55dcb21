-- The methods that make longer strings (Starlark, "string·replace", "string·join"): F54 where one would be too long.
use Rattle.std.specs.Prelude.{ℕ, ◌+◌, ◌-◌, ◌*◌, nat_le, min, List, [], length, slice_get, bytes_eq, if◌then◌else◌, Option, Some, None, Result, Ok, Err}
use Rattle.bq_base.specs.declared.fault.EvalFault.{EvalFault}
use Rattle.bq_base.specs.declared.fault.EvalFault.TheVariants.{Args, TooLong}
use Rattle.bq_value.specs.Datum.{Datum}
use Rattle.bq_builtin_strings.specs.Parts as parts
use Rattle.bq_builtin_strings.specs.Length.{max_len}
use Rattle.bq_builtin_machine.specs.State.{State}
use Rattle.bq_builtin_machine.specs.Action.{Action, ◌>>=◌, given}
use Rattle.bq_builtin_machine.specs.Answer.{and_then, as_string}
use Rattle.bq_builtin_machine.specs.Iteration.{elements}
use Rattle.bq_builtin_string_methods.specs.Affixes.{texts_of}
use Rattle.bq_builtin_string_methods.specs.Argument.{text_in, most_in}

-- F54 where there would be more bytes
abbrev pub fits : ℕ → Result (Unit {0}) EvalFault
fits len = if nat_le len max_len then Ok tt else Err TooLong

-- a text that keeps the limit
abbrev pub unless_too_long : List ℕ → Result (List ℕ) EvalFault
unless_too_long text = and_then (fits (length text)) (λ _. Ok text)

-- `s.replace(old, new, count)`
unfoldable pub replace : List ℕ → List Datum → Result (List ℕ) EvalFault
replace text vs =
    and_then (text_in (slice_get vs 0)) (λ old. and_then (text_in (slice_get vs 1)) (λ new. and_then (most_in (length text) (slice_get vs 2)) (λ most. unless_too_long (parts.replace old new most text))))

-- these strings, with the text between each two
unfoldable pub join : List ℕ → List (List ℕ) → Result (List ℕ) EvalFault
join text strings = unless_too_long (parts.join text strings)

-- `s.join(x)`, of the strings of an iterable
abbrev pub joined : List ℕ → Option Datum → Action State Datum
joined text None = given (Err Args)
joined text (Some v) = elements v >>= λ vs. given (as_string (and_then (texts_of vs) (λ strings. join text strings)))

-- ---- lengths before there are texts

-- how often a text is replaced, at most `most` times
unfoldable pub times : List ℕ → ℕ → List ℕ → ℕ
times old most text = if bytes_eq old [] then min most (length text + 1) else parts.cuts old most text

-- F54 where a text is too long in which a part has been replaced so often
abbrev pub fit_replaced : ℕ → ℕ → ℕ → ℕ → Result (Unit {0}) EvalFault
fit_replaced len times old new = fits (len - times * old + times * new)
