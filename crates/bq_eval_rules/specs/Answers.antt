-- Answers that are split: a call returns an integer itself, and all else lies in a place that its caller lends.
use Rattle.std.specs.Prelude.{ℤ, Option, Some, None, Result, Ok, Err}
use Rattle.bq_value.specs.declared.error.EvalErr.{EvalErr}
use Rattle.bq_value.specs.declared.error.EvalErr.TheVariants.{Memory}
use Rattle.bq_value.specs.Datum.{Datum, int}

-- a place: a value, or why there is none
abbrev pub AnswerPlace : Type 0
AnswerPlace = Result Datum EvalErr

-- the answer of a call, by what it returned and what it left in the place
abbrev pub answer_of : Option ℤ → AnswerPlace → AnswerPlace
answer_of (Some n) place = Ok (int n)
answer_of None place = place

-- why a place has no value
abbrev pub reason_of : AnswerPlace → EvalErr
reason_of (Err e) = e
reason_of (Ok v) = Memory

-- what a call returned; where that is nothing, the place says why
abbrev pub or_reason : {A : Type 0} → Option A → AnswerPlace → Result A EvalErr
or_reason (Some x) place = Ok x
or_reason None place = Err (reason_of place)
