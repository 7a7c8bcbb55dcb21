-- Arguments that don't fit the parameters of a function (Starlark, "Function and method calls"), in words of the call alone.
use Rattle.std.specs.Prelude.{◌≡◌, ◌<◌, ℕ, true, false, List, length, slice_get, Option, Some, None}
use Rattle.std.specs.List.{position_from}
use Rattle.bq_value.specs.Datum.{Datum}
use Rattle.bq_builtin_machine.specs.Args.{Passed}
use Rattle.bq_builtin_machine.specs.Parameters.{ParameterView, SignatureView, is_called, places}

-- the place of the parameter of that name
abbrev pub place_of : SignatureView → List ℕ → Option ℕ
place_of s name = position_from (is_called name) 0 s.parameters

-- a positional argument goes to the parameter at that place
abbrev pub IsPlaced : SignatureView → Passed → ℕ → Type 0
IsPlaced s p i = (i < places s) × (i < length p.positional)

-- a named argument is for the parameter at that place
pub record IsNamed (s : SignatureView) (p : Passed) (i : ℕ) : Type 0 where
  pub at : ℕ
  pub name : List ℕ
  pub value : Datum
  pub passed : slice_get p.named at ≡ Some (name, value)
  pub place : place_of s name ≡ Some i

-- the arguments don't fit
pub data IsMisfit (s : SignatureView) (p : Passed) : Type 0 where
  -- a positional argument is left over, and there is no `*`
  left_over : s.takes_rest ≡ false → places s < length p.positional → IsMisfit s p
  -- a name is no parameter's, and there is no `**`
  unknown : (at : ℕ) (name : List ℕ) (v : Datum) → slice_get p.named at ≡ Some (name, v) → place_of s name ≡ None → s.takes_keywords ≡ false → IsMisfit s p
  -- a parameter has a positional argument and a named one
  placed_and_named : (i : ℕ) → IsPlaced s p i → IsNamed s p i → IsMisfit s p
  -- a name is passed twice, whether for a parameter or for `**`
  named_twice : (j k : ℕ) (name : List ℕ) (v w : Datum) → j < k → slice_get p.named j ≡ Some (name, v) → slice_get p.named k ≡ Some (name, w) → IsMisfit s p
  -- a parameter that must have an argument has none
  missing : (i : ℕ) (q : ParameterView) → slice_get s.parameters i ≡ Some q → q.is_required ≡ true → ¬ IsPlaced s p i → ¬ IsNamed s p i → IsMisfit s p
