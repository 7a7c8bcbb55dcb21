-- The methods that take something off the ends of a string (Starlark, "string·strip", "string·lstrip", "string·rstrip",
-- "string·removeprefix", "string·removesuffix").
use Rattle.std.specs.Prelude.{ℕ, List, slice_get, Result, Ok}
use Rattle.bq_base.specs.declared.fault.EvalFault.{EvalFault}
use Rattle.bq_value.specs.Datum.{Datum}
use Rattle.bq_builtin_strings.specs.Trim as trim
use Rattle.bq_builtin_strings.specs.Trim.{remove_prefix, remove_suffix}
use Rattle.bq_builtin_string_methods.specs.Argument.{text_in, bytes_in}
use Rattle.bq_builtin_machine.specs.Answer.{and_then}
use Rattle.bq_builtin_string_methods.specs.declared.strips.StripMethod.{StripMethod}
use Rattle.bq_builtin_string_methods.specs.declared.strips.StripMethod.TheVariants.{Strip, Lstrip, Rstrip, Removeprefix, Removesuffix}

-- what is taken off: bytes of a set, or a text
abbrev pub end_in : StripMethod → List Datum → Result (List ℕ) EvalFault
end_in Removeprefix vs = text_in (slice_get vs 0)
end_in Removesuffix vs = text_in (slice_get vs 0)
end_in m vs = bytes_in (slice_get vs 0)

-- a text without what a method takes off its ends
abbrev pub without : StripMethod → List ℕ → List ℕ → List ℕ
without Strip end text = trim.strip end text
without Lstrip end text = trim.lstrip end text
without Rstrip end text = trim.rstrip end text
without Removeprefix end text = remove_prefix end text
without Removesuffix end text = remove_suffix end text

-- `s.method(end)`
unfoldable pub strip : StripMethod → List ℕ → List Datum → Result (List ℕ) EvalFault
strip m text vs = and_then (end_in m vs) (λ end. Ok (without m end text))
