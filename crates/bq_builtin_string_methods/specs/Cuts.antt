-- The methods that cut a string into parts (Starlark, "string·partition", "string·rpartition", "string·split", "string·rsplit",
-- "string·splitlines", "string·elems").
use Rattle.std.specs.Prelude.{ℕ, List, [], ◌∷◌, length, map, slice_get, bytes_eq, if◌then◌else◌, Option, Some, None, Result, Ok, Err}
use Rattle.bq_base.specs.declared.fault.EvalFault.{EvalFault}
use Rattle.bq_base.specs.declared.fault.EvalFault.TheVariants.{BadValue}
use Rattle.bq_value.specs.Datum.{Datum, string, tuple, data_of}
use Rattle.bq_builtin_strings.specs.Parts as parts
use Rattle.bq_builtin_strings.specs.Word as word
use Rattle.bq_builtin_strings.specs.Line.{lines, part}
use Rattle.bq_builtin_string_methods.specs.Argument.{text_in, separator_in, most_in, truth_in}
use Rattle.bq_builtin_machine.specs.Answer.{and_then}
use Rattle.bq_builtin_string_methods.specs.declared.cuts.Side.{Side}
use Rattle.bq_builtin_string_methods.specs.declared.cuts.Side.TheVariants.{Left, Right}

-- a tuple of three strings
abbrev pub three : List ℕ → List ℕ → List ℕ → Datum
three a b c = tuple (data_of (string a ∷ string b ∷ string c ∷ []))

-- what is before the separator, the separator, and what is after it; without one the string is at the side where cutting ends
abbrev pub three_parts : Side → List ℕ → List ℕ → Option (List ℕ × List ℕ) → Datum
three_parts side sep text (Some p) = three (p.0) sep (p.1)
three_parts Left sep text None = three text [] []
three_parts Right sep text None = three [] [] text

-- a text cut at the first or the last place of a separator
abbrev pub cut_once : Side → List ℕ → List ℕ → Option (List ℕ × List ℕ)
cut_once Left sep text = parts.partition sep text
cut_once Right sep text = parts.rpartition sep text

-- F57 for an empty separator
abbrev pub when_some : {A : Type 0} → List ℕ → A → Result A EvalFault
when_some sep a = if bytes_eq sep [] then Err BadValue else Ok a

-- `s.partition(sep)`, `s.rpartition(sep)`
unfoldable pub partition : Side → List ℕ → List Datum → Result Datum EvalFault
partition side text vs = and_then (text_in (slice_get vs 0)) (λ sep. when_some sep (three_parts side sep text (cut_once side sep text)))

-- a text cut at a separator, at most so often, from one side
abbrev pub split_at : Side → List ℕ → ℕ → List ℕ → List (List ℕ)
split_at Left sep most text = parts.split sep most text
split_at Right sep most text = parts.rsplit sep most text

-- the words of a text, cut at most so often, from one side
abbrev pub words_of : Side → ℕ → List ℕ → List (List ℕ)
words_of Left most text = word.words most text
words_of Right most text = word.rwords most text

-- `split` and `rsplit`: at white space where no separator is given; an empty one is refused
abbrev pub split_by : Side → List ℕ → ℕ → Option (List ℕ) → Result (List (List ℕ)) EvalFault
split_by side text most None = Ok (words_of side most text)
split_by side text most (Some sep) = when_some sep (split_at side sep most text)

-- `s.split(sep, maxsplit)`, `s.rsplit(sep, maxsplit)`
unfoldable pub split : Side → List ℕ → List Datum → Result (List (List ℕ)) EvalFault
split side text vs = and_then (separator_in (slice_get vs 0)) (λ sep. and_then (most_in (length text) (slice_get vs 1)) (λ most. split_by side text most sep))

-- `s.splitlines(keepends)`
unfoldable pub splitlines : List ℕ → List Datum → Result (List (List ℕ)) EvalFault
splitlines text vs = and_then (truth_in (slice_get vs 0)) (λ keep. Ok (map (part keep) (lines text)))
