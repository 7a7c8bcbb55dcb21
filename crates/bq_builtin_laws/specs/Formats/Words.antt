-- Words of the laws of formats.
use Rattle.std.specs.Prelude.{◌≡◌, ℕ, List, [], true, Ok}
use Rattle.std.specs.List.{Contains}
use Rattle.bq_value.specs.Cells.{StoreView}
use Rattle.bq_value.specs.Datum.{Datum}
use Rattle.bq_builtin_format.specs.Argument.{is_number}
use Rattle.bq_builtin_format.specs.Percent.{text_filled}
use Rattle.bq_builtin_format.specs.Piece.{field, pieces}

-- `%` fills the format with these values, in at most `n` steps: it gives this text, with the steps that are left
abbrev pub Fills : StoreView → ℕ → List ℕ → List Datum → List ℕ × ℕ → Type 0
Fills s n format values text = text_filled s n format values ≡ Ok text

-- the format has both a field without text and a field with a number
pub record MixesFields (format : List ℕ) : Type 0 where
  pub number : List ℕ
  pub number_is : is_number number ≡ true
  pub empty : Contains (pieces format) (field [])
  pub numbered : Contains (pieces format) (field number)
