-- The built-in functions (Starlark, "Built-in constants and functions"), and what a call gives.
use Rattle.std.specs.Prelude.{ℕ, List, [], ◌∷◌, Option, Some, None, codes, slice_get}
use Rattle.bq_base.specs.declared.fault.EvalFault.TheVariants as fault
use Rattle.bq_predeclared.specs.declared.predeclared.Predeclared.{Predeclared}
use Rattle.bq_predeclared.specs.declared.predeclared.Predeclared.TheVariants as p
use Rattle.bq_value.specs.Datum.{Datum}
use Rattle.bq_builtin_machine.specs.State.{State}
use Rattle.bq_builtin_machine.specs.Action.{Action, stop}
use Rattle.bq_builtin_machine.specs.Args.{Passed}
use Rattle.bq_builtin_methods.specs.Calling.{Calling, gives, lists, does, called}
use Rattle.bq_builtin_methods.specs.Dict.{dict_made}
use Rattle.bq_builtin.specs.Truths.{all, any, bool}
use Rattle.bq_builtin.specs.Integers.{int, len, range}
use Rattle.bq_builtin.specs.Choosing.{chosen, sorted}
use Rattle.bq_builtin.specs.Sequences.{tuple, list, reversed, enumerate, zip}
use Rattle.bq_builtin.specs.Texts.{type_of, str, repr, print, fail}
use Rattle.bq_builtin.specs.declared.choosing.ExtremeKind.TheVariants.{Greatest, Least}

-- the built-in functions, each with its name and what a call of it gives; `select` needs configurations, which only an analysis has (F60)
abbrev pub functions : List (List ℕ × Calling)
functions =
    (codes "all", gives all) ∷
    (codes "any", gives any) ∷
    (codes "bool", gives bool) ∷
    (codes "dict", does dict_made) ∷
    (codes "enumerate", lists enumerate) ∷
    (codes "fail", does fail) ∷
    (codes "int", gives (λ s args. int args)) ∷
    (codes "len", gives len) ∷
    (codes "list", lists list) ∷
    (codes "max", gives (chosen Greatest)) ∷
    (codes "min", gives (chosen Least)) ∷
    (codes "print", does print) ∷
    (codes "range", gives (λ s args. range args)) ∷
    (codes "repr", does repr) ∷
    (codes "reversed", lists reversed) ∷
    (codes "select", does (λ args. stop fault.Select)) ∷
    (codes "sorted", lists sorted) ∷
    (codes "str", does str) ∷
    (codes "tuple", gives tuple) ∷
    (codes "type", gives type_of) ∷
    (codes "zip", lists zip) ∷
    []

-- no program has a function that isn't in the table
abbrev pub called_if_any : Option (List ℕ × Calling) → Passed → Action State Datum
called_if_any None args = stop fault.WrongType
called_if_any (Some function) args = called function.1 args

-- what is no function of the language can't be called (F40)
unfoldable pub call_function : Predeclared → Passed → Action State Datum
call_function (p.BuiltIn place) args = called_if_any (slice_get functions place) args
call_function _ args = stop fault.WrongType
