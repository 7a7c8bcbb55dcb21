-- What the parameters of a built-in function are, and the arguments that they take.
use Rattle.std.specs.Prelude.{ℕ, true, false, List, Option, Some, None, slice_get}
use Rattle.bq_value.specs.Datum.{Datum}
use Rattle.bq_builtin_machine.specs.Parameters.{ParameterView}

-- a parameter that has to be given
abbrev pub required : List ℕ → ParameterView
required name = record { name = Some name; is_required = true }

-- a parameter that may be left out
abbrev pub optional : List ℕ → ParameterView
optional name = record { name = Some name; is_required = false }

-- the argument of a parameter, where it has one
abbrev pub argument : List (Option Datum) → ℕ → Option Datum
argument values i = elim (slice_get values i) [ Some v ↦ v | None ↦ None ]
