-- Arguments that are evaluated straight into the list of a function's slots: a few, of which none is starred, of a function whose parameters
-- take one each.
use Rattle.std.specs.Prelude.{◌≡◌, ℕ, ◌+◌, ◌≤◌, Bool, true, false, cond, List, [], ◌∷◌, length, replicate, set, slice_get, Option, Some, None, Result, Ok, Err}
use Rattle.std.specs.List.{position_from}
use Rattle.bq_base.specs.declared.fault.EvalFault.{EvalFault}
use Rattle.bq_base.specs.declared.fault.EvalFault.TheVariants.{Args}
use Rattle.bq_parse_grammar.specs.declared.tree.Argument.TheOpen.{Argument-F}
use Rattle.bq_parse_grammar.specs.declared.tree.Argument.{Argument, out-Argument}
use Rattle.bq_value.specs.Datum.{Datum}
use Rattle.bq_resolve_scope.specs.declared.file.Formal.{Formal}
use Rattle.bq_resolve_scope.specs.declared.file.Function.{Function}
use Rattle.bq_builtin_machine.specs.Action.{Action, ◌>>=◌, pure}
use Rattle.bq_builtin_machine.specs.Parameters.{is_called}
use Rattle.bq_eval_spec.specs.Frame.{Frame}
use Rattle.bq_eval_spec.specs.Primitives.{Primitives, given_by, stuck}
use Rattle.bq_eval_spec.specs.Calls.{singles}
use Rattle.bq_eval_spec.specs.Trees.{ArgumentLayer, Eval}
use Rattle.bq_eval_frame.specs.Slots.{list_slots}
use Rattle.bq_eval_rules.specs.declared.taking.ParameterValues.{ParameterValues}
use Rattle.bq_eval_rules.specs.Few.{few}
use Rattle.bq_eval_rules.specs.Direct.{Values, and_values, are_direct, with_defaults}

-- ---- which arguments

-- whether a named one was there once one of this form has come, too; nothing, if it isn't plain
abbrev pub next_by : ArgumentLayer → Bool → Option Bool
next_by (Argument-F.Positional x) named = cond named None (Some false)
next_by (Argument-F.Named name x) named = Some true
next_by _ named = None

-- whether a named one was there once this one has come, too; nothing, if it isn't plain
unfoldable pub plain_next : Argument → Bool → Option Bool
plain_next a named = next_by (out-Argument a) named

-- the others are plain too
abbrev pub and_plain : Option Bool → (Bool → Bool) → Bool
and_plain None others = false
and_plain (Some named) others = others named

-- none is starred, and no positional one comes after a named one, of which there may be one before
unfoldable pub are_plain : List Argument → Bool → Bool
are_plain [] named = true
are_plain (a ∷ xs) named = and_plain (plain_next a named) (are_plain xs)

-- ---- what they give

-- values, or the fault of the call: an argument fits no parameter
abbrev pub fitting : Bool → List (Option Datum) → Values
fitting true vs = Ok vs
fitting false vs = Err Args

-- the parameter of a place takes an argument, by what it has: nothing so far
abbrev pub put_by : Option (Option Datum) → ℕ → Datum → List (Option Datum) → Values
put_by (Some None) i v vs = Ok (set vs i (Some v))
put_by _ i v vs = Err Args

-- the parameter of a place takes an argument, if there is one
abbrev pub put_at : Option ℕ → Datum → List (Option Datum) → Values
put_at (Some i) v vs = put_by (slice_get vs i) i v vs
put_at None v vs = Err Args

-- a frame, or the fault of the call
abbrev pub framed : Values → Result Frame EvalFault
framed (Ok vs) = Ok (list_slots vs)
framed (Err kind) = Err kind

module _ {S : Type 0} (m : Primitives S) (ps : List Formal) where
  module _ (eval : Eval S Frame) where
    -- the argument at a place joins the values, by its form
    abbrev pub taken_by : ArgumentLayer → Frame → ℕ → Values → Action S Values
    taken_by (Argument-F.Positional x) env i vs = eval x env >>= λ v. pure (and_values vs (put_at (Some i) v))
    taken_by (Argument-F.Named name x) env i vs = eval x env >>= λ v. pure (and_values vs (put_at (position_from (is_called name) 0 (singles ps)) v))
    taken_by _ env i vs = stuck m

    -- the argument at a place joins the values
    unfoldable pub taken : Argument → Frame → ℕ → Values → Action S Values
    taken a env i vs = taken_by (out-Argument a) env i vs

    -- all of these join the values, of which the first is at a place
    unfoldable pub all_taken : List Argument → Frame → ℕ → Values → Action S Values
    all_taken [] env i vs = pure vs
    all_taken (a ∷ xs) env i vs = taken a env i vs >>= λ ws. all_taken xs env (i + 1) ws

  -- the frame that these values and the defaults are
  abbrev pub begun : List Datum → Values → Action S Frame
  begun ds vs = given_by m (framed (and_values vs (with_defaults 0 ps ds)))

  -- the frame that a function begins with, whose arguments these are
  unfoldable pub straight_entry : Eval S Frame → List Datum → List Argument → Frame → Action S Frame
  straight_entry eval ds xs env = all_taken eval xs env 0 (Ok (replicate (length ps) None)) >>= begun ds

-- what code has of the values
abbrev pub values_of : ParameterValues → Values
values_of x = fitting x.fits x.values.items

-- ---- which calls

-- a call of a function with these arguments
abbrev pub GoesStraight : Function → List Argument → Type 0
GoesStraight d xs = (length xs ≤ few) × (are_plain xs false ≡ true) × (are_direct 0 d.parameters ≡ true)
