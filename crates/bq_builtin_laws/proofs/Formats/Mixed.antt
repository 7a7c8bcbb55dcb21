-- Fields without text beside fields with a number are malformed.
use Rattle.std.proofs.Common.{◌≡◌, ◌∙◌, sym, ap, refl, ℕ, ◌⊎◌, inl, inr, true, false, List, [], ◌∷◌, Ok, Err, arith}
use Rattle.std.specs.Prelude.{bytes_eq}
use Rattle.std.specs.List.{Contains}
use Rattle.std.proofs.lemmas.List.Elements.{Contains-append_cases, Contains-push_cases}
use Rattle.bq_base.proofs.Choices.{by_bool}
use Rattle.bq_value.specs.Cells.{StoreView}
use Rattle.bq_value.specs.Datum.{Datum}
use Rattle.bq_value.specs.Looked.{Looked}
use Rattle.bq_builtin_format.specs.declared.argument.Numbering.{Numbering}
use Rattle.bq_builtin_format.specs.Argument.{argument, is_number, next_after, no_fields, numbering_after}
use Rattle.bq_builtin_format.specs.Method.{field_shown, unmixed, made, formatted}
use Rattle.bq_builtin_format.specs.Percent.{DraftView, spoiled, and_write, and_then, blank}
use Rattle.bq_builtin_format.specs.Piece.{Piece, byte, field, lone, pieces}
use Rattle.bq_builtin_laws.proofs.Formats.Malformed.{draft, IsMalformed, text_whole, not_both}

-- ---- lists

none_in : {X : Type 0} (z : X) → Contains [] z → ⊥
none_in z c = omega arith

head_or_tail : {X : Type 0} (x : X) (xs : List X) (z : X) → Contains (x ∷ xs) z → (x ≡ z) ⊎ Contains xs z
head_or_tail x xs z c = elim (Contains-append_cases (x ∷ []) xs z c) [
  | inl one ↦ elim (Contains-push_cases [] x z one) [ inl n ↦ absurd (none_in z n) | inr e ↦ inl e ]
  | inr later ↦ inr later
]

-- ---- which fields come

-- a field without text has come, or is among these pieces
abbrev HasEmpty : Numbering → List Piece → Type 0
HasEmpty m ps = (m.is_automatic ≡ true) ⊎ Contains ps (field [])

-- a field with a number has come, or is among these pieces
record NumberIn (ps : List Piece) : Type 0 where
  name : List ℕ
  known : Contains ps (field name)
  number : is_number name ≡ true

abbrev HasNumber : Numbering → List Piece → Type 0
HasNumber m ps = (m.is_numbered ≡ true) ⊎ NumberIn ps

-- a piece that is no field comes first
no_field : (p : Piece) (ps : List Piece) (name : List ℕ) → ((other : List ℕ) → p ≡ field other → ⊥) → Contains (p ∷ ps) (field name) → Contains ps (field name)
no_field p ps name differs c = elim (head_or_tail p ps (field name) c) [ inl e ↦ absurd (differs name e) | inr later ↦ later ]

empty_later : (p : Piece) (ps : List Piece) (m : Numbering) → ((other : List ℕ) → p ≡ field other → ⊥) → HasEmpty m (p ∷ ps) → HasEmpty m ps
empty_later p ps m differs (inl e) = inl e
empty_later p ps m differs (inr c) = inr (no_field p ps [] differs c)

number_later : (p : Piece) (ps : List Piece) (m : Numbering) → ((other : List ℕ) → p ≡ field other → ⊥) → HasNumber m (p ∷ ps) → HasNumber m ps
number_later p ps m differs (inl e) = inl e
number_later p ps m differs (inr c) = inr (record { name = c.name; known = no_field p ps c.name differs c.known; number = c.number })

no_byte : (b : ℕ) (other : List ℕ) → byte b ≡ field other → ⊥
no_byte b other e = cc

no_lone : (other : List ℕ) → lone ≡ field other → ⊥
no_lone other e = cc

same_name : (a b : List ℕ) → field a ≡ field b → a ≡ b
same_name a b e = cc

-- after a field what has come has come
stays_empty : (m : Numbering) (name : List ℕ) → m.is_automatic ≡ true → (numbering_after m name).is_automatic ≡ true
stays_empty m name h = elim (by_bool (bytes_eq name [])) [
  | inl t ↦ rw t refl
  | inr t ↦ elim (by_bool (is_number name)) [ inl u ↦ rw (t, u) h | inr u ↦ rw (t, u) h ]
]

stays_number : (m : Numbering) (name : List ℕ) → m.is_numbered ≡ true → (numbering_after m name).is_numbered ≡ true
stays_number m name h = elim (by_bool (bytes_eq name [])) [
  | inl t ↦ rw t h
  | inr t ↦ elim (by_bool (is_number name)) [ inl u ↦ rw (t, u) refl | inr u ↦ rw (t, u) h ]
]

number_some : (name : List ℕ) → is_number name ≡ true → bytes_eq name [] ≡ false
number_some [] h = absurd (cc)
number_some (b ∷ bs) h = refl

empty_after : (m : Numbering) (name : List ℕ) (ps : List Piece) → HasEmpty m (field name ∷ ps) → HasEmpty (numbering_after m name) ps
empty_after m name ps (inl e) = inl (stays_empty m name e)
empty_after m name ps (inr c) = elim (head_or_tail (field name) ps (field []) c) [
  | inl e ↦ let is : name ≡ [] = same_name name [] e in inl (ap (λ n. (numbering_after m n).is_automatic) is)
  | inr later ↦ inr later
]

number_after : (m : Numbering) (name : List ℕ) (ps : List Piece) → HasNumber m (field name ∷ ps) → HasNumber (numbering_after m name) ps
number_after m name ps (inl e) = inl (stays_number m name e)
number_after m name ps (inr c) = elim (head_or_tail (field name) ps (field c.name) c.known) [
  | inl e ↦
      let number : is_number name ≡ true = ap is_number (same_name name c.name e) ∙ c.number in
      let some = number_some name number in
      inl (rw (some, number) refl)
  | inr later ↦ inr (record { name = c.name; known = later; number = c.number })
]

-- ---- what is malformed

module _ (s : StoreView) (all : List Datum) (named : List (List ℕ × Datum)) where
  mixed_end : (d : DraftView) (m : Numbering) → m.is_automatic ≡ true → m.is_numbered ≡ true → (unmixed m d).malformed ≡ true
  mixed_end d m h k = rw (h, k) refl

  followed : (r : Looked DraftView) (next : DraftView → ℕ → Looked DraftView) → ((d : DraftView) (n : ℕ) → IsMalformed (next d n)) → IsMalformed (and_then r next)
  followed (Ok p) next h = h p.0 p.1
  followed (Err kind) next h = tt

  made_malformed : (ps : List Piece) (d : DraftView) (n : ℕ) (next : List Datum) (m : Numbering) → HasEmpty m ps → HasNumber m ps → IsMalformed (made s all named d n next m ps)
  unfolding made
  made_malformed [] d n next m (inl e) (inl k) = mixed_end d m e k
  made_malformed [] d n next m (inr c) k = absurd (none_in (field []) c)
  made_malformed [] d n next m (inl e) (inr c) = absurd (none_in (field c.name) c.known)
  made_malformed (byte b ∷ ps) d n next m e k = made_malformed ps (and_write d (b ∷ [])) n next m (empty_later (byte b) ps m (no_byte b) e) (number_later (byte b) ps m (no_byte b) k)
  made_malformed (lone ∷ ps) d n next m e k = made_malformed ps (spoiled d) n next m (empty_later lone ps m no_lone e) (number_later lone ps m no_lone k)
  made_malformed (field name ∷ ps) d n next m e k =
      followed (field_shown s d n (argument all named next name)) (λ d j. made s all named d j (next_after next name) (numbering_after m name) ps)
      (λ d j. made_malformed ps d j (next_after next name) (numbering_after m name) (empty_after m name ps e) (number_after m name ps k))

no_draft : (r : Looked DraftView) (e : DraftView) (k : ℕ) → IsMalformed r → r ≡ draft e k → e.malformed ≡ false → ⊥
no_draft (Ok p) e k h is whole = let same : p.0 ≡ e = cc in not_both e.malformed (ap (λ (x : DraftView). x.malformed) (sym same) ∙ h) whole
no_draft (Err kind) e k h is whole = cc

pub not_mixed : (s : StoreView) (n : ℕ) (format : List ℕ) (all : List Datum) (named : List (List ℕ × Datum)) (number : List ℕ) (text : List ℕ × ℕ) → Contains (pieces format) (field []) → Contains (pieces format) (field number)
    → is_number number ≡ true → ¬ (formatted s n format all named ≡ Ok text)
unfolding formatted
not_mixed s n format all named number text empty numbered is h =
    let run : Looked DraftView = made s all named blank n all no_fields (pieces format) in
    let w = text_whole run text h in
    no_draft run w.made w.left (made_malformed s all named (pieces format) blank n all no_fields (inr empty) (inr (record { name = number; known = numbered; number = is }))) w.is w.whole
