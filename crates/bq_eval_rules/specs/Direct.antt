-- Arguments that go straight into the frame: those of parameters that take one each, whose slots are the first, in their order.
use Rattle.std.specs.Prelude.{ℕ, ◌+◌, ◌==◌, nat_le, Bool, true, false, cond, List, [], ◌∷◌, drop, length, set, slice_get, Option, Some, None, Result, Ok, Err}
use Rattle.bq_base.specs.declared.fault.EvalFault.{EvalFault}
use Rattle.bq_base.specs.declared.fault.EvalFault.TheVariants.{Args}
use Rattle.bq_value.specs.Datum.{Datum}
use Rattle.bq_resolve_scope.specs.declared.file.Formal.{Formal}
use Rattle.bq_resolve_scope.specs.declared.file.Formal.TheVariants as formal
use Rattle.bq_builtin_machine.specs.Args.{Passed}
use Rattle.bq_builtin_machine.specs.Parameters.{SignatureView}
use Rattle.bq_builtin_machine.specs.Binding.{BoundView, Binding, has_value, placed_values, take_all_named}
use Rattle.bq_eval_spec.specs.Calls.{singles}
use Rattle.bq_eval_spec.specs.Slots.{slot_of}

-- each parameter takes one argument, by place or by name, and has the slot of its place; the first of these is of that place
abbrev pub are_direct : ℕ → List Formal → Bool
are_direct i [] = true
are_direct i (formal.Plain n ∷ ps) = cond (slot_of n.referent == i) (are_direct (i + 1) ps) false
are_direct i (formal.Default n ∷ ps) = cond (slot_of n.referent == i) (are_direct (i + 1) ps) false
are_direct i (_ ∷ ps) = false

-- what a call needs to know of such parameters
abbrev pub direct_signature : List Formal → SignatureView
direct_signature ps = record { parameters = singles ps; placed = length ps; takes_rest = false; takes_keywords = false }

-- the arguments by place go to this number of parameters in turn
abbrev pub placed_all : ℕ → List Datum → BoundView
placed_all count xs = record { values = placed_values count count xs; rest = drop count xs; keywords = [] }

-- values, or the fault of the call
abbrev pub Values : Type 0
Values = Result (List (Option Datum)) EvalFault

-- the values once the parameter of that place has one: its argument, or else this default
abbrev pub value_or : Option (Option Datum) → ℕ → Datum → List (Option Datum) → Values
value_or (Some (Some v)) i d vs = Ok vs
value_or (Some None) i d vs = Ok (set vs i (Some d))
value_or None i d vs = Err Args

-- what follows, unless there is a fault
abbrev pub and_values : Values → (List (Option Datum) → Values) → Values
and_values (Ok vs) next = next vs
and_values (Err kind) next = Err kind

-- the values once each of these parameters has one, by its form, or the fault (F52); the first of them is of that place
unfoldable pub with_defaults : ℕ → List Formal → List Datum → List (Option Datum) → Values
with_defaults i [] ds vs = Ok vs
with_defaults i (formal.Plain n ∷ ps) ds vs = cond (has_value vs i) (with_defaults (i + 1) ps ds vs) (Err Args)
with_defaults i (formal.Default n ∷ ps) [] vs = Err Args
with_defaults i (formal.Default n ∷ ps) (d ∷ ds) vs = and_values (value_or (slice_get vs i) i d vs) (with_defaults (i + 1) ps ds)
with_defaults i (_ ∷ ps) ds vs = Err Args

-- what defaults make of arguments that are bound
abbrev pub defaulted : Binding → List Formal → List Datum → Values
defaulted (Ok b) ps ds = with_defaults 0 ps ds b.values
defaulted (Err kind) ps ds = Err kind

-- the value of each parameter: a positional argument, one of its name, or its default
unfoldable pub direct_values : List Formal → List Datum → Passed → Values
direct_values ps ds p =
    cond (nat_le (length p.positional) (length ps)) (defaulted (take_all_named (direct_signature ps) p.named (placed_all (length ps) p.positional)) ps ds) (Err Args)
