-- String literals and their faults, in words of their items (`IsItem` of bq_source `StringLiteral`).
use Rattle.std.specs.Prelude.{ℕ, ◌≡◌, List, ◌∷◌, ◌++◌, None}
use Rattle.bq_source.specs.declared.string_literal.Quoting.{Quoting}
use Rattle.bq_source.specs.Lexis.{newlines}
use Rattle.bq_source.specs.StringLiteral.{BodyItem, IsLiteral, AllStand, prefix, quotes, spelling}

-- These bytes, with the rest of the text after them, are one literal, each item of which stands for something.
pub record IsString (bs rest : List ℕ) : Type 0 where
  pub quoting : Quoting
  pub is : List BodyItem
  pub literal : IsLiteral quoting (bs ++ rest) is rest
  pub stand : AllStand is

-- The text begins with a literal that has a bad escape: the first one comes after `lines` newlines.
pub record HasBadEscape (text : List ℕ) (lines : ℕ) : Type 0 where
  pub quoting : Quoting
  pub before : List BodyItem
  pub item : BodyItem
  pub after : List BodyItem
  pub rest : List ℕ
  pub literal : IsLiteral quoting text (before ++ item ∷ after) rest
  pub stand : AllStand before
  pub bad : item.value ≡ None
  pub line : lines ≡ newlines (prefix quoting ++ quotes quoting ++ spelling before)
