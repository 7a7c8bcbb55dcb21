-- The arguments that a function takes (Starlark, "Function and method calls"): what it doesn't take is F52. All are passed by place
-- but for one, which some functions take by its name.
use Rattle.std.specs.Prelude.{ℕ, Bool, false, cond, List, [], ◌∷◌, bytes_eq, Option, Some, None, Result, Ok, Err}
use Rattle.bq_base.specs.declared.fault.EvalFault.{EvalFault}
use Rattle.bq_base.specs.declared.fault.EvalFault.TheVariants.{WrongType, Args}
use Rattle.bq_value.specs.Datum.{Datum, boolean, string}
use Rattle.bq_builtin_machine.specs.Args.{Passed}
use Rattle.bq_builtin_machine.specs.Answer.{and_then}
use Rattle.bq_builtin_methods.specs.Arguments.{one_argument, optional_argument, one_or_two}

-- no argument by name
unfoldable pub by_place : Passed → Result (List Datum) EvalFault
by_place p = elim p.named [ [] ↦ Ok p.positional | n ∷ named ↦ Err Args ]

-- the one argument of a call, passed by place
unfoldable pub only_argument : Passed → Result Datum EvalFault
only_argument p = and_then (by_place p) one_argument

-- the one argument may be left out
unfoldable pub only_argument_if_any : Passed → Result (Option Datum) EvalFault
only_argument_if_any p = and_then (by_place p) optional_argument

-- one argument at most by name: the one of that name
unfoldable pub only_named : List ℕ → List (List ℕ × Datum) → Result (Option Datum) EvalFault
only_named name [] = Ok None
only_named name (a ∷ []) = cond (bytes_eq name a.0) (Ok (Some a.1)) (Err Args)
only_named name _ = Err Args

-- an argument is passed by place or by name, and not twice
abbrev pub passed_once : Datum → Option Datum → Option Datum → Result (Datum × Option Datum) EvalFault
passed_once v None o = Ok (v, o)
passed_once v (Some w) None = Ok (v, Some w)
passed_once v (Some w) (Some u) = Err Args

-- one argument, and a second one that may be left out, by place or by that name
unfoldable pub one_and_named : List ℕ → Passed → Result (Datum × Option Datum) EvalFault
one_and_named name p = and_then (one_or_two p.positional) (λ r. and_then (only_named name p.named) (λ o. passed_once r.0 r.1 o))

-- a bool; left out, `False` (F40)
unfoldable pub flag : Option Datum → Result Bool EvalFault
flag None = Ok false
flag (Some (boolean b)) = Ok b
flag (Some v) = Err WrongType

-- a string (F40)
unfoldable pub text : Datum → Result (List ℕ) EvalFault
text (string t) = Ok t
text v = Err WrongType
