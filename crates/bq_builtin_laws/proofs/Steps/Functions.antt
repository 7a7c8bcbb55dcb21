-- Built-in functions have numbers of steps and outcomes of their own.
use Rattle.std.proofs.Common.{ℕ, zero, suc, List, [], ◌∷◌, slice_get}
use Rattle.std.specs.List.{AllByRecursion}
use Rattle.std.specs.Map.{values_of}
use Rattle.bq_base.specs.declared.fault.EvalFault.TheVariants as fault
use Rattle.bq_predeclared.specs.declared.predeclared.Predeclared.{Predeclared}
use Rattle.bq_predeclared.specs.declared.predeclared.Predeclared.TheVariants as p
use Rattle.bq_value.specs.Datum.{Datum, none, string}
use Rattle.bq_builtin_machine.specs.Action.{◌>>◌, pure, given}
use Rattle.bq_builtin_machine.specs.Args.{Passed}
use Rattle.bq_builtin_methods.specs.Calling.{Calling}
use Rattle.bq_builtin_machine.specs.Machine as machine
use Rattle.bq_builtin_machine.specs.Machine.{walk}
use Rattle.bq_builtin.specs.Arguments.{by_place, only_argument}
use Rattle.bq_builtin.specs.Call.{functions, called_if_any, call_function}
use Rattle.bq_builtin.specs.Texts.{str, repr, space, separator_in, joined_texts, print, fail}
use Rattle.bq_builtin_laws.specs.Steps.Laws.{Own}
use Rattle.bq_builtin_laws.proofs.Steps.Machine.{pure_owns, stop_owns, given_owns, bind_owns, then_owns, walk_owns, print_owns, fail_owns}
use Rattle.bq_builtin_laws.proofs.Steps.Operators.{text_owns, repr_owns}
use Rattle.bq_builtin_laws.proofs.Steps.Collections.{dict_made_owns}
use Rattle.bq_builtin_laws.proofs.Steps.Rows.{ActionOwns, called_owns, ActionsOwn, each_owns}
use Rattle.bq_builtin_laws.proofs.Steps.Walks.{joined_takes}

str_owns : (args : Passed) → Own (str args)
unfolding str
str_owns args =
    bind_owns (given (only_argument args)) _ (given_owns (only_argument args)) (λ v. bind_owns (machine.text v) (λ t. pure (string t)) (text_owns v) (λ t. pure_owns (string t)))

shown_owns : (args : Passed) → Own (repr args)
unfolding repr
shown_owns args =
    bind_owns (given (only_argument args)) _ (given_owns (only_argument args)) (λ v. bind_owns (machine.repr v) (λ t. pure (string t)) (repr_owns v) (λ t. pure_owns (string t)))

printed_owns : (args : Passed) → Own (print args)
unfolding print
printed_owns args =
    bind_owns (given (separator_in args.named)) _ (given_owns (separator_in args.named))
    (λ separator. bind_owns (walk (λ store n. joined_texts separator store n args.positional)) (λ t. machine.print t >> pure none)
    (walk_owns (λ store n. joined_texts separator store n args.positional) (λ store. joined_takes separator store args.positional))
    (λ t. then_owns (machine.print t) (pure none) (print_owns t) (pure_owns none)))

failing_owns : (args : Passed) → Own (fail args)
unfolding fail
failing_owns args =
    bind_owns (given (by_place args)) _ (given_owns (by_place args))
    (λ vs. bind_owns (walk (λ store n. joined_texts space store n vs)) (λ t. machine.fail t) (walk_owns (λ store n. joined_texts space store n vs) (λ store. joined_takes space store vs)) (λ t. fail_owns Datum t))

at_place : (table : List (List ℕ × Calling)) (place : ℕ) (args : Passed) → AllByRecursion ActionOwns (values_of table) → Own (called_if_any (slice_get table place) args)
at_place [] place args own = stop_owns Datum fault.WrongType
at_place (function ∷ others) zero args own = called_owns function.1 args own.0
at_place (function ∷ others) (suc place) args own = at_place others place args own.1

-- `dict`, `fail`, `print`, `repr`, `select` and `str`
actions_own : ActionsOwn (values_of functions)
actions_own = (dict_made_owns, (failing_owns, (printed_owns, (shown_owns, ((λ args. stop_owns Datum fault.Select), (str_owns, tt))))))

pub function_owns : (function : Predeclared) (args : Passed) → Own (call_function function args)
unfolding call_function
function_owns (p.BuiltIn place) args = at_place functions place args (each_owns (values_of functions) actions_own)
function_owns function args = stop_owns Datum fault.WrongType
