-- What a format is cut into (Starlark, "string·format"): bytes that stand for themselves, fields in braces, and braces that are
-- alone. Two braces of one kind stand for one; a field goes from an opening brace to the next closing one.
use Rattle.std.specs.Prelude.{◌≡◌, ◌≢◌, ℕ, zero, suc, Bool, not, ◌||◌, ◌==◌, List, [], ◌∷◌, ◌++◌, length, take, drop, Option, Some, None, if◌then◌else◌}
use Rattle.std.specs.List.{All, prefix_len}
use Rattle.bq_builtin_format.specs.Percent.{DraftView, and_write, spoiled}

-- a piece of a format: a byte of text, a field by its name, or a brace that has no partner
pub data Piece : Type 0 where
  byte : ℕ → Piece
  field : List ℕ → Piece
  lone : Piece

-- ---- in words

-- what is between the braces of a field
abbrev pub IsFieldText : List ℕ → Type 0
IsFieldText [] = Unit {0}
IsFieldText (b ∷ bs) = (b ≢ 123) × All (λ c. c ≢ 125) (b ∷ bs)

-- a format without a lone brace, and its pieces: bytes, doubled braces and fields, one after another
pub data IsCutInto : List ℕ → List Piece → Type 0 where
  nothing : IsCutInto [] []
  plain : (b : ℕ) (rest : List ℕ) (ps : List Piece) → (b ≢ 123) → (b ≢ 125) → IsCutInto rest ps → IsCutInto (b ∷ rest) (byte b ∷ ps)
  doubled_opening : (b c : ℕ) (rest : List ℕ) (ps : List Piece) → b ≡ 123 → c ≡ 123 → IsCutInto rest ps → IsCutInto (b ∷ c ∷ rest) (byte b ∷ ps)
  doubled_closing : (b c : ℕ) (rest : List ℕ) (ps : List Piece) → b ≡ 125 → c ≡ 125 → IsCutInto rest ps → IsCutInto (b ∷ c ∷ rest) (byte b ∷ ps)
  in_braces : (b : ℕ) (text name rest : List ℕ) (ps : List Piece) → b ≡ 123 → text ≡ name ++ 125 ∷ rest → IsFieldText name → IsCutInto rest ps → IsCutInto (b ∷ text) (field name ∷ ps)

-- ---- as functions

-- `{` or `}`
abbrev pub is_brace : ℕ → Bool
is_brace b = (b == 123) || (b == 125)

-- a byte that stands for itself in a format: no brace
abbrev pub is_plain : ℕ → Bool
is_plain b = not (is_brace b)

-- a byte that can stand in a field: all but `}`
abbrev pub is_inside : ℕ → Bool
is_inside b = not (b == 125)

-- the name of a field, and what stands behind its `}`, of the bytes behind a `{` that begins one
abbrev pub opened : List ℕ → Option (List ℕ × List ℕ)
opened [] = None
opened (b ∷ bs) = if b == 123 then None else elim (drop (prefix_len is_inside (b ∷ bs)) (b ∷ bs)) [
  | [] ↦ None
  | end ∷ rest ↦ Some (take (prefix_len is_inside (b ∷ bs)) (b ∷ bs), rest)
]

-- the text of the field that a format begins with, and what is after it
unfoldable pub field_of : List ℕ → Option (List ℕ × List ℕ)
field_of [] = None
field_of (b ∷ bs) = if b == 123 then opened bs else None

-- a brace that begins no field: two of a kind stand for one, else it is alone; after an opening one that is alone nothing is read
abbrev pub doubled : ℕ → List ℕ → Piece × List ℕ
doubled b [] = (lone, [])
doubled b (c ∷ cs) = if c == b then (byte b, cs) else (lone, (if b == 123 then [] else c ∷ cs))

-- the first piece, and what is after it
unfoldable pub first_piece : ℕ → List ℕ → Piece × List ℕ
first_piece b bs = elim (field_of (b ∷ bs)) [ Some p ↦ (field p.0, p.1) | None ↦ if is_brace b then doubled b bs else (byte b, bs) ]

-- the pieces, at most this many
unfoldable pub cut : ℕ → List ℕ → List Piece
cut most [] = []
cut zero (b ∷ bs) = []
cut (suc most) (b ∷ bs) = (first_piece b bs).0 ∷ cut most (first_piece b bs).1

-- a format, cut into its pieces
unfoldable pub pieces : List ℕ → List Piece
pieces text = cut (length text) text

-- what is written up to the first field, and the pieces from there on
unfoldable pub literal : DraftView → List Piece → DraftView × List Piece
literal d [] = (d, [])
literal d (byte b ∷ ps) = literal (and_write d (b ∷ [])) ps
literal d (lone ∷ ps) = literal (spoiled d) ps
literal d (field name ∷ ps) = (d, field name ∷ ps)

-- what is written after a piece: its byte too, for a field no more; a lone brace makes the format malformed
abbrev pub piece_written : DraftView → Piece → DraftView
piece_written d (byte b) = and_write d (b ∷ [])
piece_written d lone = spoiled d
piece_written d (field name) = d

-- ---- for the laws

-- no brace is alone
abbrev pub HasNoLone : List Piece → Type 0
HasNoLone [] = Unit {0}
HasNoLone (lone ∷ ps) = ⊥
HasNoLone (byte b ∷ ps) = HasNoLone ps
HasNoLone (field name ∷ ps) = HasNoLone ps

-- pieces that are these bytes, and no fields
abbrev pub bytes : List ℕ → List Piece
bytes [] = []
bytes (b ∷ bs) = byte b ∷ bytes bs

-- each brace twice
abbrev pub with_doubled_braces : List ℕ → List ℕ
with_doubled_braces [] = []
with_doubled_braces (b ∷ bs) = if is_brace b then b ∷ b ∷ with_doubled_braces bs else b ∷ with_doubled_braces bs
