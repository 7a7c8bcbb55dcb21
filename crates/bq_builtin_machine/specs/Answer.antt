-- Answers: what a part of a program gives without a state, or the fault for which it gives nothing.
use Rattle.std.specs.Prelude.{ℕ, ℤ, List, Result, Ok, Err}
use Rattle.bq_base.specs.declared.fault.EvalFault.{EvalFault}
use Rattle.bq_value.specs.Datum.{Datum, int, string}

-- an answer, and then another, which knows what the first one was
abbrev pub and_then : {A B : Type 0} → Result A EvalFault → (A → Result B EvalFault) → Result B EvalFault
and_then (Ok a) next = next a
and_then (Err kind) next = Err kind

-- an integer as a value
abbrev pub as_int : Result ℤ EvalFault → Result Datum EvalFault
as_int r = and_then r (λ n. Ok (int n))

-- a text as a value
abbrev pub as_string : Result (List ℕ) EvalFault → Result Datum EvalFault
as_string r = and_then r (λ text. Ok (string text))
