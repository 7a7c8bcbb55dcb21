-- Parameters (Starlark, "Function definitions").
use Rattle.std.specs.Prelude.{◌≡◌, ℕ, min, Bool, false, List, map, length, Option, Some, None}
use Rattle.std.specs.Ordering.{nat_cmp}
use Rattle.std.specs.List.{position_from}
use Rattle.std.specs.Str.{bytes_eq}
use Rattle.std.specs.Cmp.Lexicographic.{slice_cmp}
use Rattle.std.specs.BTreeMap.{BTreeMap, get_by}
use Rattle.std.specs.Borrow.{Bor}
use Rattle.bq_builtin_machine.specs.declared.parameters.SingleParameter.{SingleParameter}
use Rattle.bq_builtin_machine.specs.declared.parameters.Signature.{Signature}

-- a parameter that takes one argument: its name, where named arguments may go to it, and whether it has no default
pub record ParameterView : Type 0 where
  pub name : Option (List ℕ)
  pub is_required : Bool

-- The parameters of a function that take one argument, of which the first `placed` take positional ones; whether there
-- is a `*` and a `**`, which take what is left.
pub record SignatureView : Type 0 where
  pub parameters : List ParameterView
  pub placed : ℕ
  pub takes_rest : Bool
  pub takes_keywords : Bool

-- the name of a parameter, where named arguments may go to it
abbrev pub name_of : Option (Bor (List ℕ)) → Option (List ℕ)
name_of None = None
name_of (Some name) = Some name.now

-- a parameter's name, and whether it has no default
abbrev pub parameter_of : SingleParameter → ParameterView
parameter_of p = record { name = name_of p.name; is_required = p.is_required }

-- the parameters that take one argument, how many take positional ones, and whether there is a `*` and a `**`
abbrev pub signature_of : Signature → SignatureView
signature_of s = record { parameters = map parameter_of s.parameters.now; placed = s.placed; takes_rest = s.takes_rest; takes_keywords = s.takes_keywords }

-- whether an argument of that name is for this parameter
abbrev pub is_called : List ℕ → ParameterView → Bool
is_called name p = elim p.name [ None ↦ false | Some other ↦ bytes_eq name other ]

-- how many of the first parameters take positional arguments
abbrev pub places : SignatureView → ℕ
places s = min s.placed (length s.parameters)

-- ---- parameters by their names

-- the place that a map has for a name
abbrev pub place_in : BTreeMap (Bor (List ℕ)) ℕ → List ℕ → Option ℕ
place_in m name = get_by (λ k. slice_cmp nat_cmp name k.now) m

-- the map gives each name the place of the first parameter of that name in the list, which begins at place `i`, and no other name a place
abbrev pub HasPlaces : ℕ → List ParameterView → BTreeMap (Bor (List ℕ)) ℕ → Type 0
HasPlaces i ps m = (name : List ℕ) → place_in m name ≡ position_from (is_called name) i ps
