-- No key of a dict is twice, so no attribute of its rule is.
use Rattle.std.proofs.Common.{◌≡◌, ◌∙◌, sym, ap, refl, ℕ, Bool, true, false, List, [], ◌∷◌, Some, None, inl, inr}
use Rattle.std.specs.Prelude.{cond, ◌++◌, bytes_eq}
use Rattle.std.proofs.lemmas.Slice.Eq.{bytes_eq-Decides}
use Rattle.bq_base.proofs.Choices.{by_bool}
use Rattle.bq_value_datum.specs.Class.{Class, has_attribute}
use Rattle.bq_value_datum.specs.declared.attribute.Attribute.{Attribute}
use Rattle.bq_value.specs.Datum.{Datum, string}
use Rattle.bq_value.specs.Pairs.{found}
use Rattle.bq_value.specs.Same.{same}
use Rattle.bq_value.specs.SameLaws.{same-refl}

-- the key names no attribute so far
abbrev pub IsNew : Class → Datum → Type 0
IsNew x k = (name : List ℕ) → k ≡ string name → has_attribute x name ≡ false

-- and so do all keys that are left
abbrev pub AreNew : Class → List (Datum × Datum) → Type 0
AreNew x [] = Unit {0}
AreNew x (p ∷ ps) = IsNew x p.0 × AreNew x ps

pub new_to_none : (ps : List (Datum × Datum)) → AreNew [] ps
new_to_none [] = tt
new_to_none (p ∷ ps) = (λ name is. refl, new_to_none ps)

one_more : (x : Class) (n m : List ℕ) (a : Attribute) → has_attribute x m ≡ false → bytes_eq m n ≡ false → has_attribute (x ++ (n, a) ∷ []) m ≡ false
one_more [] n m a h other = rw other refl
one_more (e ∷ es) n m a h other = elim (by_bool (bytes_eq m e.0)) [
  | inl t ↦ let there : true ≡ false = rw t at h in absurd (cc)
  | inr t ↦ let rest : has_attribute es m ≡ false = rw t at h in rw t (one_more es n m a rest other)
]

other_name : (n m : List ℕ) (b : Bool) → bytes_eq m n ≡ b → same (string n) (string m) ≡ false → bytes_eq m n ≡ false
other_name n m true is apart =
    let e : m ≡ n = (bytes_eq-Decides m n).0 is in
    let t : same (string n) (string m) ≡ true = ap (λ k. same (string n) (string k)) e ∙ same-refl (string n) in
    absurd (cc)
other_name n m false is apart = is

not_first : (k : Datum) (p : Datum × Datum) (ps : List (Datum × Datum)) (b : Bool) → same k p.0 ≡ b → cond b (Some p.1) (found k ps) ≡ None → (same k p.0 ≡ false) × (found k ps ≡ None)
not_first k p ps true is h = absurd (cc)
not_first k p ps false is h = (is, h)

-- one attribute more, by a name that none of them has
pub still_new : (x : Class) (n : List ℕ) (a : Attribute) (ps : List (Datum × Datum)) → AreNew x ps → found (string n) ps ≡ None → AreNew (x ++ (n, a) ∷ []) ps
still_new x n a [] new absent = tt
still_new x n a (p ∷ ps) new absent =
    let apart = not_first (string n) p ps (same (string n) p.0) refl absent in (
      λ m is. one_more x n m a (new.0 m is) (other_name n m (bytes_eq m n) refl (ap (same (string n)) (sym is) ∙ apart.0)),
      still_new x n a ps new.1 apart.1,
    )
