-- The bytes of a set, marked in a table, and the runs of such bytes.
use Rattle.std.proofs.Common.{◌≡◌, ℕ, zero, suc, ◌<◌, ◌+◌, ◌==◌, ◌||◌, Bool, true, false, List, length, get_or, set, take, refl, sym, ap, ◌∙◌, inl, inr}
use Rattle.std.proofs.Math.ListN.{replicate}
use Rattle.std.proofs.lemmas.Bool.{cases_eq, eq-eqb, ne_eqb}
use Rattle.std.proofs.lemmas.List.{get_or-set_same, get_or-set_other}
use Rattle.std.proofs.lemmas.List.Folds.{list_any_more}
use Rattle.bq_builtin_strings.specs.Trim.{is_among}

or_true : (b : Bool) → (b || true) ≡ true
or_true true = refl
or_true false = refl

or_false : (b : Bool) → (b || false) ≡ b
or_false true = refl
or_false false = refl

pub absent : (n k : ℕ) → get_or (replicate n false) k false ≡ false
absent zero k = refl
absent (suc n) zero = refl
absent (suc n) (suc k) = absent n k

pub marked : (has : List Bool) (bytes : List ℕ) (i k : ℕ) → i < length bytes → get_or bytes i 0 < length has → get_or has k false ≡ is_among (take i bytes) k
    → get_or (set has (get_or bytes i 0) true) k false ≡ is_among (take (i + 1) bytes) k
marked has bytes i k l within h = elim (cases_eq (get_or bytes i 0) k) [
  | inl same ↦
      let here : get_or (set has (get_or bytes i 0) true) k false ≡ true = ap (λ (n : ℕ). get_or (set has (get_or bytes i 0) true) n false) (sym same) ∙ get_or-set_same has (get_or bytes i 0) true false within in
      here ∙ sym (list_any_more (λ c. c == k) bytes i 0 l ∙ (ap (λ (b : Bool). is_among (take i bytes) k || b) (eq-eqb (get_or bytes i 0) k same) ∙ or_true (is_among (take i bytes) k)))
  | inr other ↦
      get_or-set_other has (get_or bytes i 0) k true false (λ e. other (sym e))
      ∙ (h ∙ sym (list_any_more (λ c. c == k) bytes i 0 l ∙ (ap (λ (b : Bool). is_among (take i bytes) k || b) (ne_eqb (get_or bytes i 0) k other) ∙ or_false (is_among (take i bytes) k))))
]
