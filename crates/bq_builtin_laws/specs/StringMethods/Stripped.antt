-- What is left of a text whose ends are stripped, in words of the text.
use Rattle.std.specs.Prelude.{◌≡◌, ℕ, List, [], ◌∷◌, ◌++◌, All, true, false}
use Rattle.bq_builtin_strings.specs.Trim.{is_among}

-- each of these bytes is of the set
abbrev pub AreOf : List ℕ → List ℕ → Type 0
AreOf set bytes = All (λ b. is_among set b ≡ true) bytes

-- the first byte, if there is one, is not of the set
abbrev pub BeginsOutside : List ℕ → List ℕ → Type 0
BeginsOutside set text = (b : ℕ) (rest : List ℕ) → text ≡ b ∷ rest → is_among set b ≡ false

-- the last byte, if there is one, is not of the set
abbrev pub EndsOutside : List ℕ → List ℕ → Type 0
EndsOutside set text = (rest : List ℕ) (b : ℕ) → text ≡ rest ++ b ∷ [] → is_among set b ≡ false

-- what is left is the end of the text, as it stands: bytes of the set came before it, and it doesn't begin with one
pub record IsCutAtStart (set text left : List ℕ) : Type 0 where
  pub before : List ℕ
  pub whole : text ≡ before ++ left
  pub cut : AreOf set before
  pub begins : BeginsOutside set left

-- what is left is the beginning of the text, as it stands: bytes of the set came after it, and it doesn't end with one
pub record IsCutAtEnd (set text left : List ℕ) : Type 0 where
  pub after : List ℕ
  pub whole : text ≡ left ++ after
  pub cut : AreOf set after
  pub ends : EndsOutside set left

-- both: what is left is a part of the text, as it stands
pub record IsCutAtBothEnds (set text left : List ℕ) : Type 0 where
  pub before : List ℕ
  pub after : List ℕ
  pub whole : text ≡ before ++ (left ++ after)
  pub cut_before : AreOf set before
  pub cut_after : AreOf set after
  pub begins : BeginsOutside set left
  pub ends : EndsOutside set left
