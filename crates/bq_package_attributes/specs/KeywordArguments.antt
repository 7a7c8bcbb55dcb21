-- The keyword arguments of a call, as they are held.
use Rattle.std.specs.Prelude.{ℕ, List, [], ◌∷◌, ◌++◌, Bool, true, not, ◌&&◌, map}
use Rattle.std.specs.Option.{is_some}
use Rattle.bq_value.specs.Datum.{Datum, string}
use Rattle.bq_value.specs.Pairs.{found}
use Rattle.bq_package_attributes.specs.declared.keyword_arguments.HeldArguments.{HeldArguments}
use Rattle.bq_package_attributes.specs.declared.keyword_arguments.HeldArguments.TheVariants as held

-- an argument as a pair of a dict
abbrev pub pair_of : List ℕ × Datum → Datum × Datum
pair_of a = (string a.0, a.1)

-- arguments as the pairs of a dict, in their order
abbrev pub pairs : List (List ℕ × Datum) → List (Datum × Datum)
pairs named = map pair_of named

-- keyword arguments as the pairs of a dict, whether few are held, as a list, or many, as a dict
abbrev pub pairs_of : HeldArguments → List (Datum × Datum)
pairs_of (held.Few named) = pairs named.items
pairs_of (held.Many dict) = dict

-- none of these arguments has the name of a pair that is there, or of one before it
unfoldable pub are_new : List (Datum × Datum) → List (List ℕ × Datum) → Bool
are_new taken [] = true
are_new taken (a ∷ named) = not (is_some (found (string a.0) taken)) && are_new (taken ++ pair_of a ∷ []) named
