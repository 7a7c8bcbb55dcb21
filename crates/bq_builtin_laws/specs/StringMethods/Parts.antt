-- What parts of a string are, in words of the string.
use Rattle.std.specs.Prelude.{◌≡◌, ℕ, List, [], ◌∷◌, ◌++◌, false}
use Rattle.bq_builtin_strings.specs.Search.{StandsAt}
use Rattle.bq_builtin_string_methods.specs.Cuts.{three}
use Rattle.bq_builtin_string_methods.specs.declared.cuts.Side.{Side}
use Rattle.bq_builtin_string_methods.specs.declared.cuts.Side.TheVariants.{Left, Right}
use Rattle.bq_value.specs.Datum.{Datum}
use Rattle.bq_builtin_strings.specs.Class.{is_space}

-- the separator stands at no place of the text
abbrev pub IsNowhereIn : List ℕ → List ℕ → Type 0
IsNowhereIn separator text = (at : ℕ) → ¬ StandsAt separator text at

-- the three parts of a text: one after another they are the text; where it hasn't the separator, `partition` has the text as the first
-- part, and `rpartition` as the last
pub data AreThreeParts (separator text : List ℕ) (v : Datum) : Side → Type 0 where
  cut : {side : Side} (before after : List ℕ) → v ≡ three before separator after → text ≡ before ++ (separator ++ after) → AreThreeParts separator text v side
  whole_first : IsNowhereIn separator text → v ≡ three text [] [] → AreThreeParts separator text v Left
  whole_last : IsNowhereIn separator text → v ≡ three [] [] text → AreThreeParts separator text v Right

-- a byte at least, of which the first is no space
abbrev pub BeginsWithoutSpace : List ℕ → Type 0
BeginsWithoutSpace [] = ⊥
BeginsWithoutSpace (b ∷ bs) = is_space b ≡ false
