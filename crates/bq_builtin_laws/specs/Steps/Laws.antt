-- The laws of steps.
use Rattle.std.specs.Prelude.{ℕ, List}
use Rattle.bq_parse_grammar.specs.declared.tree.Comparison.{Comparison}
use Rattle.bq_parse_grammar.specs.declared.tree.Operator.{Operator}
use Rattle.bq_parse_grammar.specs.declared.tree.UnaryOperator.{UnaryOperator}
use Rattle.bq_predeclared.specs.declared.predeclared.Predeclared.{Predeclared}
use Rattle.bq_value.specs.Datum.{Datum}
use Rattle.bq_builtin_machine.specs.Action.{Action}
use Rattle.bq_builtin_machine.specs.Args.{Passed}
use Rattle.bq_builtin_machine.specs.State.{State}
use Rattle.bq_builtin_operators.specs.Operate as operate
use Rattle.bq_builtin_operators.specs.InPlace as in_place
use Rattle.bq_builtin_methods.specs.Call as methods
use Rattle.bq_builtin.specs.Call as functions
use Rattle.bq_builtin_laws.specs.Steps.Steps.{machine, TakesInLine}

-- an action of a machine has a number of steps and an outcome of its own, in any state, and leaves the line of the statement that is running
abbrev pub Own : {A : Type 0} → Action State A → Type 0
Own action = (s : State) → TakesInLine machine action s

-- each unary operator, binary operator and comparison has a number of steps and an outcome of its own
abbrev pub OperatorsOwn : Type 0
OperatorsOwn =
    ((operator : UnaryOperator) (v : Datum) → Own (operate.unary operator v))
    × ((operator : Operator) (v w : Datum) → Own (operate.binary operator v w))
    × ((operator : Comparison) (v w : Datum) → Own (operate.compare operator v w))

-- each index and each slice has a number of steps and an outcome of its own
abbrev pub ItemsOwn : Type 0
ItemsOwn =
    ((v at : Datum) → Own (operate.index v at))
    × ((v start stop step : Datum) → Own (operate.slice v start stop step))

-- each augmented assignment and each `v[at] = w` has a number of steps and an outcome of its own
abbrev pub ChangesOwn : Type 0
ChangesOwn =
    ((operator : Operator) (v w : Datum) → Own (in_place.augment operator v w))
    × ((v at w : Datum) → Own (in_place.set_index v at w))

-- each call of a method has a number of steps and an outcome of its own
abbrev pub MethodsOwn : Type 0
MethodsOwn = (name : List ℕ) (v : Datum) (args : Passed) → Own (methods.call_method name v args)

-- each call of a built-in function has a number of steps and an outcome of its own
abbrev pub FunctionsOwn : Type 0
FunctionsOwn = (function : Predeclared) (args : Passed) → Own (functions.call_function function args)
