-- Look-ups in tables, and lines of tables.
use Rattle.std.proofs.Common.{◌≡◌, ℕ, zero, suc, inl, inr, List, [], ◌∷◌, Bool, true, false, Option, Some, None, refl, sym, ap, ◌∙◌, subst, nat_eq, eq-eqb}
use Rattle.std.specs.List.{AllByRecursion, list_any}
use Rattle.std.specs.Map.{lookup}
use Rattle.std.specs.Str.{bytes_eq}
use Rattle.std.proofs.lemmas.Bool.{eqb-true}
use Rattle.std.proofs.lemmas.Slice.Eq.{bytes_eq-Decides}
use Rattle.bq_base.proofs.Choices.{by_bool}
use Rattle.bq_source.proofs.Spelled.{false_not_true}
use Rattle.bq_source_lexer.specs.Tables.{IsRow, IsIn}

-- tests that decide what is equal
module _ {K : Type 0} (test : K → K → Bool) (alike : (a b : K) → test a b ≡ true → a ≡ b) (same : (a : K) → test a a ≡ true) where
  pub row_found : {X : Type 0} (a : K) (x : X) (rows : List (K × X)) → lookup (test a) rows ≡ Some x → IsRow a x rows
  row_found a x [] h = cc
  row_found a x (r ∷ rs) h = elim (by_bool (test a r.0)) [
    | inl t ↦
        let found : Some r.1 ≡ Some x = rw t at h in
        let key = alike a r.0 t in
        let value : r.1 ≡ x = cc in
        inl (λ i. (sym key i, value i))
    | inr t ↦ let later : lookup (test a) rs ≡ Some x = rw t at h in inr (row_found a x rs later)
  ]

  pub no_row : {X : Type 0} (a : K) (x : X) (rows : List (K × X)) → lookup (test a) rows ≡ None → IsRow a x rows → ⊥
  no_row a x [] h i = i
  no_row a x (r ∷ rs) h i = elim (by_bool (test a r.0)) [
    | inl t ↦ let found : Some r.1 ≡ None = rw t at h in cc
    | inr t ↦
        let later : lookup (test a) rs ≡ None = rw t at h in
        elim i [
          | inl e ↦
              let P : K → Type 0 = λ b. test a b ≡ false in
              absurd (false_not_true (sym (subst P (ap (λ p. p.0) e) t) ∙ same a))
          | inr j ↦ no_row a x rs later j
        ]
  ]

  pub is_in : (a : K) (xs : List K) → list_any (test a) xs ≡ true → IsIn a xs
  is_in a [] h = cc
  is_in a (x ∷ xs) h = elim (by_bool (test a x)) [ inl t ↦ inl (alike a x t) | inr t ↦ let later : list_any (test a) xs ≡ true = rw t at h in inr (is_in a xs later) ]

  pub in_is : (a : K) (xs : List K) → IsIn a xs → list_any (test a) xs ≡ true
  in_is a [] i = absurd i
  in_is a (x ∷ xs) (inl e) = let P : K → Type 0 = λ b. test a b ≡ true in let t = subst P e (same a) in rw t refl
  in_is a (x ∷ xs) (inr i) = elim (by_bool (test a x)) [ inl t ↦ rw t refl | inr t ↦ let r = in_is a xs i in rw t r ]

pub words_alike : (a b : List ℕ) → bytes_eq a b ≡ true → a ≡ b
words_alike a b = (bytes_eq-Decides a b).0

pub word_same : (a : List ℕ) → bytes_eq a a ≡ true
word_same a = (bytes_eq-Decides a a).1 refl

pub numbers_alike : (a b : ℕ) → nat_eq a b ≡ true → a ≡ b
numbers_alike a b t = eqb-true a b t

pub number_same : (a : ℕ) → nat_eq a a ≡ true
number_same a = eq-eqb a a refl

-- what holds of each line holds of one
pub of_row : {K X : Type 0} (P : K × X → Type 0) (a : K) (x : X) (rows : List (K × X)) → AllByRecursion P rows → IsRow a x rows → P (a, x)
of_row P a x [] all i = absurd i
of_row P a x (r ∷ rs) all (inl e) = subst P e all.0
of_row P a x (r ∷ rs) all (inr i) = of_row P a x rs all.1 i

pub of_entry : {K : Type 0} (P : K → Type 0) (a : K) (xs : List K) → AllByRecursion P xs → IsIn a xs → P a
of_entry P a [] all i = absurd i
of_entry P a (x ∷ xs) all (inl e) = subst P (sym e) all.0
of_entry P a (x ∷ xs) all (inr i) = of_entry P a xs all.1 i

pub all_of : {A : Type 0} (P Q : A → Type 0) (xs : List A) → ((x : A) → P x → Q x) → AllByRecursion P xs → AllByRecursion Q xs
all_of P Q [] step all = tt
all_of P Q (x ∷ xs) step all = (step x all.0, all_of P Q xs step all.1)

-- the entry at a place
abbrev pub nth : {A : Type 0} → List A → ℕ → Option A
nth [] n = None
nth (x ∷ xs) zero = Some x
nth (x ∷ xs) (suc n) = nth xs n

pub nth_row : {K X : Type 0} (a : K) (x : X) (rows : List (K × X)) (n : ℕ) → nth rows n ≡ Some (a, x) → IsRow a x rows
nth_row a x [] n h = cc
nth_row a x (r ∷ rs) zero h = let same : r ≡ (a, x) = cc in inl same
nth_row a x (r ∷ rs) (suc n) h = inr (nth_row a x rs n h)
