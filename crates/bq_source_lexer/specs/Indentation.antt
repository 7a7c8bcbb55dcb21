-- Indentation, by the widths of a text's logical lines, the newest first. Starlark specification, "Lexical elements":
-- "Indentation".
use Rattle.std.specs.Prelude.{ℕ, ◌<◌, ◌≤◌, ◌≡◌, ◌⊎◌, List, [], ◌∷◌, length, replicate}
use Rattle.bq_source.specs.declared.token.Token.{Token}
use Rattle.bq_source.specs.declared.token.TokenKind.TheVariants as k

-- Width 0 is open. Another is where an earlier line has it, and no line since then is narrower.
abbrev pub IsOpen : ℕ → List ℕ → Type 0
IsOpen w [] = w ≡ 0
IsOpen w (v ∷ vs) = (w ≡ v) ⊎ ((w < v) × IsOpen w vs)

-- the width of the line before; before the first line it is 0
abbrev pub width_before : List ℕ → ℕ
width_before [] = 0
width_before (v ∷ vs) = v

-- the width is one of these
abbrev pub IsAmong : ℕ → List ℕ → Type 0
IsAmong u [] = ⊥
IsAmong u (v ∷ vs) = (u ≡ v) ⊎ IsAmong u vs

-- each is greater than the next
abbrev pub IsDescending : List ℕ → Type 0
IsDescending [] = Unit {0}
IsDescending (v ∷ []) = Unit {0}
IsDescending (v ∷ w ∷ ws) = (w < v) × IsDescending (w ∷ ws)

-- the open widths that are greater than w, each once
pub record AreOpenAbove (w : ℕ) (vs us : List ℕ) : Type 0 where
  pub distinct : IsDescending us
  pub open_ : (u : ℕ) → IsAmong u us → (w < u) × IsOpen u vs
  pub all : (u : ℕ) → w < u → IsOpen u vs → IsAmong u us

-- The tokens before the first token of a line of width w: an indent where it is wider than the line before; else the width is
-- open, and there is an outdent for each greater open one. `empty` makes them.
pub data AreMarks (empty : Token → Type 0) (w : ℕ) (vs : List ℕ) : List Token → Type 0 where
  wider : {ts : List Token} (t : Token) → width_before vs < w → t.kind ≡ k.Indent → empty t → ts ≡ t ∷ [] → AreMarks empty w vs ts
  open_ : {ts : List Token} (us : List ℕ) (t : Token) → w ≤ width_before vs → IsOpen w vs → AreOpenAbove w vs us
      → t.kind ≡ k.Outdent → empty t → ts ≡ replicate (length us) t → AreMarks empty w vs ts
