-- What `startswith` and `endswith` answer.
use Rattle.std.specs.Prelude.{◌≡◌, ℕ, Bool, List, [], ◌∷◌, Ok}
use Rattle.bq_value.specs.Datum.{Datum, boolean}
use Rattle.bq_builtin_string_methods.specs.Affixes.{ends}
use Rattle.bq_builtin_string_methods.specs.declared.affixes.EndMethod.{EndMethod}

-- called on this text with an affix, or a tuple of affixes, the method has this answer
abbrev pub IsAnswered : EndMethod → List ℕ → Datum → Bool → Type 0
IsAnswered m text affix so = ends m text (affix ∷ []) ≡ Ok (boolean so)
