-- Slices of strings, tuples and lists (Starlark, "Slice expressions").
use Rattle.std.specs.Prelude.{cond, ℤ, pos, List, Option, Some, None, Result, Ok, Err}
use Rattle.std.specs.Ordering.{int_eq}
use Rattle.bq_base.specs.declared.fault.EvalFault.{EvalFault}
use Rattle.bq_base.specs.declared.fault.EvalFault.TheVariants.{WrongType, BadValue}
use Rattle.bq_value.specs.Datum.{Datum, none, int}
use Rattle.bq_builtin_strings.specs.Slice.{slice_of}
use Rattle.bq_builtin_machine.specs.Answer.{and_then}

-- an integer, or `None` where the bound is left out
abbrev pub bound_of : Datum → Result (Option ℤ) EvalFault
bound_of none = Ok None
bound_of (int n) = Ok (Some n)
bound_of _ = Err WrongType

-- a step of 0 is F57
abbrev pub with_step : Option ℤ → Option ℤ → ℤ → Result (Option ℤ × Option ℤ × ℤ) EvalFault
with_step start stop step = cond (int_eq step (pos 0)) (Err BadValue) (Ok (start, stop, step))

-- start, stop and step, which is 1 where it is left out
unfoldable pub bounds_of : Datum → Datum → Datum → Result (Option ℤ × Option ℤ × ℤ) EvalFault
bounds_of start stop step =
    and_then (bound_of start)
    (λ a. and_then (bound_of stop) (λ b. and_then (bound_of step) (λ c. with_step a b (elim c [ None ↦ pos 1 | Some n ↦ n ]))))

-- `xs[start:stop:step]`
unfoldable pub sliced : {A : Type 0} → List A → Datum → Datum → Datum → Result (List A) EvalFault
sliced xs start stop step = and_then (bounds_of start stop step) (λ b. Ok (slice_of xs b.0 b.1 b.2))
