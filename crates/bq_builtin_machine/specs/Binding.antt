-- Which argument goes to which parameter (Starlark, "Function and method calls"). An argument that goes to none is F52.
use Rattle.std.specs.Prelude.{ℕ, zero, suc, ◌+◌, nat_le, Bool, true, false, not, cond, ◌&&◌, ◌||◌, List, [], ◌∷◌, drop, length, set, slice_get, Option, Some, None, is_some, Result, Ok, Err, refl}
use Rattle.std.specs.List.{position_from}
use Rattle.std.specs.Coded.{Coded, code_by, coded×, coded_list, coded_option}
use Rattle.bq_base.specs.declared.fault.EvalFault.{EvalFault}
use Rattle.bq_base.specs.declared.fault.EvalFault.TheVariants.{Args}
use Rattle.bq_value.specs.Datum.{Datum, string}
use Rattle.bq_value.specs.Codes.{coded_datum}
use Rattle.bq_value.specs.Pairs.{coded_pairs, found, put}
use Rattle.bq_builtin_machine.specs.Args.{Passed}
use Rattle.bq_builtin_machine.specs.Parameters.{ParameterView, SignatureView, is_called, places}

-- The argument of each parameter, where it has one; the positional arguments that are left, in order; the named ones that are left, as
-- the pairs of a dict.
pub record BoundView : Type 0 where
  pub values : List (Option Datum)
  pub rest : List Datum
  pub keywords : List (Datum × Datum)

-- the values of parameters, or the fault of the call
abbrev pub Binding : Type 0
Binding = Result BoundView EvalFault

-- The arguments of a number of parameters, of which the first `placed` take positional arguments, one each. The others
-- have none yet.
abbrev pub placed_values : ℕ → ℕ → List Datum → List (Option Datum)
placed_values placed zero xs = []
placed_values zero (suc n) xs = None ∷ placed_values zero n xs
placed_values (suc placed) (suc n) [] = None ∷ placed_values placed n []
placed_values (suc placed) (suc n) (x ∷ xs) = Some x ∷ placed_values placed n xs

-- the arguments by place go to the parameters in turn; what is left over goes to `*args`
abbrev pub placed : SignatureView → List Datum → BoundView
placed s xs = record { values = placed_values (places s) (length s.parameters) xs; rest = drop (places s) xs; keywords = [] }

-- a positional argument that no parameter takes
abbrev pub too_many : SignatureView → List Datum → Bool
too_many s xs = not (s.takes_rest || nat_le (length xs) (places s))

-- fills a parameter, by what it has: none may be filled twice, nor one that isn't there
abbrev pub fill_by : Option (Option Datum) → ℕ → Datum → BoundView → Binding
fill_by (Some None) i v b = Ok (record b { values = set b.values i (Some v) })
fill_by _ i v b = Err Args

-- a parameter takes one argument
unfoldable pub fill : ℕ → Datum → BoundView → Binding
fill i v b = fill_by (slice_get b.values i) i v b

-- `**` takes one argument of a name
unfoldable pub take_keyword : Bool → List ℕ → Datum → BoundView → Binding
take_keyword takes name v b =
    cond takes (cond (is_some (found (string name) b.keywords)) (Err Args) (Ok (record b { keywords = put (string name) v b.keywords }))) (Err Args)

-- binds an argument by name, by the place of the parameter that has this name
abbrev pub take_named_by : Option ℕ → Bool → List ℕ → Datum → BoundView → Binding
take_named_by (Some i) takes name v b = fill i v b
take_named_by None takes name v b = take_keyword takes name v b

-- a named argument goes to the parameter of its name, and else to `**`
unfoldable pub take_named : SignatureView → List ℕ → Datum → BoundView → Binding
take_named s name v b = take_named_by (position_from (is_called name) 0 s.parameters) s.takes_keywords name v b

-- what follows a binding, unless it failed
abbrev pub and_bind : Binding → (BoundView → Binding) → Binding
and_bind (Ok b) next = next b
and_bind (Err kind) next = Err kind

-- binds the arguments by name, in turn
unfoldable pub take_all_named : SignatureView → List (List ℕ × Datum) → BoundView → Binding
take_all_named s [] b = Ok b
take_all_named s (a ∷ named) b = and_bind (take_named s a.0 a.1 b) (take_all_named s named)

-- whether the parameter of that place has an argument
abbrev pub has_value : List (Option Datum) → ℕ → Bool
has_value vs i = elim (slice_get vs i) [ Some (Some v) ↦ true | _ ↦ false ]

-- each parameter that must have an argument has one; the first one is of that place
abbrev pub complete_from : ℕ → List ParameterView → List (Option Datum) → Bool
complete_from i [] vs = true
complete_from i (p ∷ ps) vs = cond (p.is_required && not (has_value vs i)) false (complete_from (i + 1) ps vs)

-- each parameter has a value or a default
abbrev pub is_complete : List ParameterView → List (Option Datum) → Bool
is_complete ps vs = complete_from 0 ps vs

-- a binding that leaves no parameter without a value
abbrev pub if_complete : SignatureView → BoundView → Binding
if_complete s b = cond (is_complete s.parameters b.values) (Ok b) (Err Args)

-- Positional arguments go to the parameters in their order, and named ones to the parameters of their names. A parameter takes one
-- argument at most.
unfoldable pub bind : SignatureView → Passed → Binding
bind s p = cond (too_many s p.positional) (Err Args) (and_bind (take_all_named s p.named (placed s p.positional)) (if_complete s))

-- a code of what arguments are bound to, which nothing else that they are bound to has
abbrev pub coded_bound : Coded BoundView
coded_bound =
    code_by (List (Option Datum) × (List Datum × List (Datum × Datum))) (coded× (coded_list (coded_option coded_datum)) (coded× (coded_list coded_datum) coded_pairs))
    (λ b. (b.values, (b.rest, b.keywords))) (λ p. record { values = p.0; rest = p.1.0; keywords = p.1.1 }) (λ _. refl)
