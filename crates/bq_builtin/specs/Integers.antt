-- The functions `int`, `len` and `range` (Starlark, "int", "len", "range").
use Rattle.std.specs.Prelude.{ℕ, ℤ, pos, nat_lt, ◌&&◌, true, false, Bool, cond, List, length, Option, Some, None, Result, Ok, Err}
use Rattle.std.specs.Ordering.{int_eq}
use Rattle.std.specs.Str.{all_ascii_digits}
use Rattle.std.specs.Str.Parse.{without_leading_sign, signed_digits_value}
use Rattle.bq_base.specs.declared.fault.EvalFault.{EvalFault}
use Rattle.bq_base.specs.declared.fault.EvalFault.TheVariants.{WrongType, BadValue}
use Rattle.bq_builtin_strings.specs.Integer.{fitted}
use Rattle.bq_value.specs.Datum as datum
use Rattle.bq_value.specs.Datum.{Datum, boolean, string, tuple, cell, list_of}
use Rattle.bq_value.specs.Range.{range_count}
use Rattle.bq_value.specs.Contents.{Contents, items, pairs}
use Rattle.bq_value.specs.Cells.{StoreView, content_at}
use Rattle.bq_builtin_machine.specs.Args.{Passed}
use Rattle.bq_builtin_machine.specs.Answer.{and_then, as_int}
use Rattle.bq_builtin_methods.specs.Arguments.{one_to_three, integer}
use Rattle.bq_builtin.specs.Arguments.{by_place, only_argument}

-- ---- `int(x)`

-- one decimal digit or more, and nothing else
abbrev pub is_numeral : List ℕ → Bool
is_numeral ds = nat_lt 0 (length ds) && all_ascii_digits ds

-- the integer that a text is: decimal digits, with a sign or without; else F57. It has 64 bits (F41).
unfoldable pub read_integer : List ℕ → Result ℤ EvalFault
read_integer text = cond (is_numeral (without_leading_sign text)) (fitted (signed_digits_value 10 text)) (Err BadValue)

-- an integer itself, a bool as 0 or 1, what a string reads as
unfoldable pub integer_from : Datum → Result ℤ EvalFault
integer_from (datum.int i) = Ok i
integer_from (boolean false) = Ok (pos 0)
integer_from (boolean true) = Ok (pos 1)
integer_from (string text) = read_integer text
integer_from v = Err WrongType

-- `int(x)`
unfoldable pub int : Passed → Result Datum EvalFault
int p = and_then (only_argument p) (λ v. as_int (integer_from v))

-- ---- `len(x)`

-- how many elements or pairs a cell holds
abbrev pub content_length : Option Contents → Result ℕ EvalFault
content_length (Some (items xs)) = Ok (length xs)
content_length (Some (pairs ps)) = Ok (length ps)
content_length _ = Err WrongType

-- how many bytes or elements there are
unfoldable pub length_in : StoreView → Datum → Result ℕ EvalFault
length_in s (string bytes) = Ok (length bytes)
length_in s (tuple xs) = Ok (length (list_of xs))
length_in s (datum.range start stop step) = Ok (range_count start stop step)
length_in s (cell home number) = content_length (content_at s home number)
length_in s v = Err WrongType

-- a range may have more elements than an integer says (F41)
unfoldable pub len : StoreView → Passed → Result Datum EvalFault
len s p = and_then (only_argument p) (λ v. and_then (length_in s v) (λ n. as_int (fitted (pos n))))

-- ---- `range(stop)`, `range(start, stop, step)`

-- the step of a range, 1 where none is given
abbrev pub step_or_one : Option Datum → Result ℤ EvalFault
step_or_one None = Ok (pos 1)
step_or_one (Some v) = integer v

-- a step of 0 is F57
unfoldable pub range_by : ℤ → ℤ → ℤ → Result Datum EvalFault
range_by start stop step = cond (int_eq step (pos 0)) (Err BadValue) (Ok (datum.range start stop step))

-- with one argument it is the end, and the start is 0
unfoldable pub range_from : Datum × (Option Datum × Option Datum) → Result Datum EvalFault
range_from (v, (None, o)) = and_then (integer v) (λ stop. range_by (pos 0) stop (pos 1))
range_from (v, (Some w, o)) = and_then (integer v) (λ start. and_then (integer w) (λ stop. and_then (step_or_one o) (λ step. range_by start stop step)))

-- `range(stop)`, `range(start, stop)` and `range(start, stop, step)`
unfoldable pub range : Passed → Result Datum EvalFault
range p = and_then (by_place p) (λ vs. and_then (one_to_three vs) (λ r. range_from r))
