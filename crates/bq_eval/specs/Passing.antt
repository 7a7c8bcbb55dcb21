-- The arguments of a call, one after another (Starlark, "Function and method calls").
use Rattle.std.specs.Prelude.{ℕ, ◌+◌, nat_le, cond, List, [], ◌∷◌, ◌++◌, length, Result, Ok, Err}
use Rattle.bq_base.specs.declared.fault.EvalFault.{EvalFault}
use Rattle.bq_base.specs.declared.fault.EvalFault.TheVariants.{WrongType, TooLong}
use Rattle.bq_value.specs.Datum.{Datum, string}
use Rattle.bq_builtin_machine.specs.State.{State}
use Rattle.bq_builtin_machine.specs.Action.{Action, ◌>>=◌, given, look}
use Rattle.bq_builtin_machine.specs.Args.{Passed}
use Rattle.bq_builtin_machine.specs.Iteration.{elements}
use Rattle.bq_builtin_operators.specs.Operand.{dict_in}
use Rattle.bq_builtin_machine.specs.Answer.{and_then}
use Rattle.bq_builtin_strings.specs.Length.{max_len}

-- there are so few that one call may pass them, else F54
abbrev pub if_few : Passed → Result Passed EvalFault
if_few p = cond (nat_le (length p.positional + length p.named) max_len) (Ok p) (Err TooLong)

-- more arguments by place
abbrev pub with_positional : Passed → List Datum → Passed
with_positional p xs = record p { positional = p.positional ++ xs }

-- one more argument by name
abbrev pub with_named : Passed → List ℕ → Datum → Passed
with_named p name v = record p { named = p.named ++ (name, v) ∷ [] }

-- a key of `**` is a name, or F40
abbrev pub name_of : Datum → Result (List ℕ) EvalFault
name_of (string name) = Ok name
name_of _ = Err WrongType

-- the pairs of a dict, each as a named argument
unfoldable pub with_pairs : Passed → List (Datum × Datum) → Result Passed EvalFault
with_pairs p [] = Ok p
with_pairs p (x ∷ xs) = and_then (name_of x.0) (λ name. with_pairs (with_named p name x.1) xs)

-- `v`
unfoldable pub pass : Passed → Datum → Action State Passed
pass p v = given (if_few (with_positional p (v ∷ [])))

-- `name = v`
unfoldable pub pass_named : Passed → List ℕ → Datum → Action State Passed
pass_named p name v = given (if_few (with_named p name v))

-- `*v`: the elements of an iterable
unfoldable pub pass_all : Passed → Datum → Action State Passed
pass_all p v = elements v >>= λ xs. given (if_few (with_positional p xs))

-- `**v`: the pairs of a dict
unfoldable pub pass_all_named : Passed → Datum → Action State Passed
pass_all_named p v = look (λ s. dict_in s.store v) >>= λ ps. given (and_then (with_pairs p ps) if_few)
