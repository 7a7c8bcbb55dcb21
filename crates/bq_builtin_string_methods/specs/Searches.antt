-- The methods that look for a text in a region of a string (Starlark, "string·count", "string·find", "string·rfind",
-- "string·index", "string·rindex").
use Rattle.std.specs.Prelude.{ℕ, ◌+◌, ◌^◌, nat_lt, if◌then◌else◌, pos, negsuc, List, slice_get, Option, Some, None, Result, Ok, Err}
use Rattle.bq_base.specs.declared.fault.EvalFault.{EvalFault}
use Rattle.bq_base.specs.declared.fault.EvalFault.TheVariants.{BadValue, Overflow}
use Rattle.bq_value.specs.Datum.{Datum, int}
use Rattle.bq_builtin_strings.specs.Search.{find, rfind}
use Rattle.bq_builtin_strings.specs.Parts.{count}
use Rattle.bq_builtin_string_methods.specs.Argument.{text_in, region}
use Rattle.bq_builtin_machine.specs.Answer.{and_then}
use Rattle.bq_builtin_string_methods.specs.declared.searches.SearchMethod.{SearchMethod}
use Rattle.bq_builtin_string_methods.specs.declared.searches.SearchMethod.TheVariants.{Count, Find, Rfind, Index, Rindex}

-- a number, where it fits 64 bits, and else F41, which is out of reach of strings as long as they may be
abbrev pub number : ℕ → Result Datum EvalFault
number n = if nat_lt n (2 ^ 63) then Ok (int (pos n)) else Err Overflow

-- the place in the string of what was found in a region that starts at `from`; -1 where it was not found
abbrev pub place_or_less : ℕ → Option ℕ → Result Datum EvalFault
place_or_less from None = Ok (int (negsuc 0))
place_or_less from (Some at) = number (from + at)

-- F57 where it was not found
abbrev pub place_or_fault : ℕ → Option ℕ → Result Datum EvalFault
place_or_fault from None = Err BadValue
place_or_fault from (Some at) = number (from + at)

-- the result of a search in a region that starts at `from`
abbrev pub said : SearchMethod → List ℕ → ℕ → List ℕ → Result Datum EvalFault
said Count sub from part = number (count sub part)
said Find sub from part = place_or_less from (find sub part)
said Rfind sub from part = place_or_less from (rfind sub part)
said Index sub from part = place_or_fault from (find sub part)
said Rindex sub from part = place_or_fault from (rfind sub part)

-- `s.method(sub, start, end)`
unfoldable pub search : SearchMethod → List ℕ → List Datum → Result Datum EvalFault
search m text vs = and_then (text_in (slice_get vs 0)) (λ sub. and_then (region text (slice_get vs 1) (slice_get vs 2)) (λ r. said m sub (r.0) (r.1)))
