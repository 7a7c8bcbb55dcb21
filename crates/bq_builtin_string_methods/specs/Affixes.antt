-- The methods that look at the ends of a region of a string (Starlark, "string·startswith", "string·endswith").
use Rattle.std.specs.Prelude.{ℕ, Bool, List, [], ◌∷◌, nat_eq, slice_get, Option, Some, None, Result, Ok, Err}
use Rattle.std.specs.List.{starts_with, ends_with, list_any}
use Rattle.bq_base.specs.declared.fault.EvalFault.{EvalFault}
use Rattle.bq_base.specs.declared.fault.EvalFault.TheVariants.{Args, WrongType}
use Rattle.bq_value.specs.Datum.{Datum, boolean, string, tuple, list_of}
use Rattle.bq_builtin_string_methods.specs.Argument.{text_in, region}
use Rattle.bq_builtin_machine.specs.Answer.{and_then}
use Rattle.bq_builtin_string_methods.specs.declared.affixes.EndMethod.{EndMethod}
use Rattle.bq_builtin_string_methods.specs.declared.affixes.EndMethod.TheVariants.{Startswith, Endswith}

-- `startswith` and `endswith`, for one part
abbrev pub has_end : EndMethod → List ℕ → List ℕ → Bool
has_end Startswith part text = starts_with nat_eq part text
has_end Endswith part text = ends_with nat_eq part text

-- the strings of these values, where each is one
abbrev pub texts_of : List Datum → Result (List (List ℕ)) EvalFault
texts_of [] = Ok []
texts_of (v ∷ vs) = and_then (text_in (Some v)) (λ text. and_then (texts_of vs) (λ texts. Ok (text ∷ texts)))

-- a string, or the strings of a tuple
abbrev pub texts_in : Option Datum → Result (List (List ℕ)) EvalFault
texts_in None = Err Args
texts_in (Some (tuple vs)) = texts_of (list_of vs)
texts_in (Some (string text)) = Ok (text ∷ [])
texts_in (Some v) = Err WrongType

-- `s.method(x, start, end)`: whether one of the texts is at that end of the region
unfoldable pub ends : EndMethod → List ℕ → List Datum → Result Datum EvalFault
ends m text vs =
    and_then (region text (slice_get vs 1) (slice_get vs 2)) (λ r. and_then (texts_in (slice_get vs 0)) (λ texts. Ok (boolean (list_any (has_end m (r.1)) texts))))
