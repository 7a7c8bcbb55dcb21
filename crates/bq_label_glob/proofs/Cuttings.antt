-- The function `takes` answers as the relation `Takes` says.
use Rattle.std.proofs.Common.{◌≡◌, ◌++◌, ◌↔◌, ℕ, Bool, true, List, [], ◌∷◌, codes, refl, sym, ap, subst, ◌∙◌, arith, inl, inr}
use Rattle.std.proofs.lemmas.Bool.{cases_Bool, false≢true}
use Rattle.std.proofs.lemmas.Bool.Decides.{nat_tests}
use Rattle.std.specs.List.{slice_split}
use Rattle.bq_label.specs.Paths.{is_slash}
use Rattle.bq_label.proofs.Above.{same_bytes, equal_bytes}
use Rattle.bq_label_glob.specs.Matching.{Takes, FitsSegment, Matches, takes, is_star, is_same, fits_segment, is_any_segments, matches}
use Rattle.bq_label_glob.specs.Matching.Takes.{end, run, single}
use Rattle.bq_label_glob.proofs.Greedy.{IsTail, any_from, any_found, one_of, opened, opened_one}

pub tail_of : {X : Type 0} (taken rest : List X) → IsTail rest (taken ++ rest)
tail_of [] [] = refl
tail_of [] (x ∷ xs) = inl refl
tail_of (y ∷ ys) rest = inr (tail_of ys rest)

pub front_of : {X : Type 0} (zs xs : List X) → IsTail zs xs → (taken : List X) × (xs ≡ taken ++ zs)
front_of zs [] t = ([], sym t)
front_of zs (x ∷ xs) (inl e) = ([], sym e)
front_of zs (x ∷ xs) (inr t) = let r = front_of zs xs t in (x ∷ r.0, ap (λ v. x ∷ v) r.1)

module _ {A X : Type 0} (IsMany : A → Type 0) (Fits : A → X → Type 0) (many : A → Bool) (fits : A → X → Bool)
    (many_is : (a : A) → many a ≡ true → IsMany a) (is_many : (a : A) → IsMany a → many a ≡ true)
    (fits_is : (a : A) (x : X) → fits a x ≡ true → Fits a x) (is_fit : (a : A) (x : X) → Fits a x → fits a x ≡ true) where
  nothing_left : takes many fits [] [] ≡ true
  unfolding takes
  nothing_left = refl

  pub from_relation : {ps : List A} {xs : List X} → Takes IsMany Fits ps xs → takes many fits ps xs ≡ true
  from_relation end = nothing_left
  from_relation (run a ps taken rest xs m e t) =
      opened many fits a ps xs (is_many a m) ∙ any_from (takes many fits ps) rest xs (subst (λ vs. IsTail rest vs) (sym e) (tail_of taken rest)) (from_relation t)
  from_relation (single a ps x xs n f t) = elim (cases_Bool (many a)) [
    | inl y ↦ absurd (n (many_is a y))
    | inr no_many ↦ opened_one many fits a ps x xs no_many (is_fit a x f) ∙ from_relation t
  ]

  empty_only : (xs : List X) → takes many fits [] xs ≡ true → xs ≡ []
  unfolding takes
  empty_only [] h = refl
  empty_only (x ∷ xs) h = absurd (false≢true h)

  pub to_relation : (ps : List A) (xs : List X) → takes many fits ps xs ≡ true → Takes IsMany Fits ps xs
  to_relation [] xs h = subst (λ vs. Takes IsMany Fits [] vs) (sym (empty_only xs h)) end
  to_relation (a ∷ ps) xs h = elim (cases_Bool (many a)) [
    | inl y ↦
        let found = any_found (takes many fits ps) xs (sym (opened many fits a ps xs y) ∙ h) in
        let front = front_of found.rest xs found.in_it in
        run a ps front.0 found.rest xs (many_is a y) front.1 (to_relation ps found.rest found.passes)
    | inr no_many ↦
        let o = one_of many fits a ps xs no_many h in
        subst (λ vs. Takes IsMany Fits (a ∷ ps) vs) (sym o.2) (single a ps o.0 o.1 (λ m. false≢true (sym no_many ∙ is_many a m)) (fits_is a o.0 o.4) (to_relation ps o.1 o.3))
  ]

pub star_is : (p : ℕ) → is_star p ≡ true → p ≡ 42
star_is p h = grind (arith, nat_tests)

is_a_star : (p : ℕ) → p ≡ 42 → is_star p ≡ true
is_a_star p h = grind (arith, nat_tests)

pub same_is : (p b : ℕ) → is_same p b ≡ true → p ≡ b
same_is p b h = grind (arith, nat_tests)

pub is_the_same : (p b : ℕ) → p ≡ b → is_same p b ≡ true
is_the_same p b h = grind (arith, nat_tests)

pub segment_fits : (p s : List ℕ) → fits_segment p s ≡ true → FitsSegment p s
unfolding fits_segment
segment_fits p s h = to_relation (λ p. p ≡ 42) (λ p b. p ≡ b) is_star is_same star_is is_a_star same_is is_the_same p s h

pub fits_from : (p s : List ℕ) → FitsSegment p s → fits_segment p s ≡ true
unfolding fits_segment
fits_from p s h = from_relation (λ p. p ≡ 42) (λ p b. p ≡ b) is_star is_same star_is is_a_star same_is is_the_same h

any_is : (p : List ℕ) → is_any_segments p ≡ true → p ≡ codes "**"
any_is p h = same_bytes p (codes "**") h

is_any : (p : List ℕ) → p ≡ codes "**" → is_any_segments p ≡ true
is_any p e = equal_bytes p (codes "**") e

pub cuttings : (pattern path : List ℕ) → (matches pattern path ≡ true) ↔ Matches pattern path
unfolding matches
cuttings pattern path = (
  (λ h. to_relation (λ p. p ≡ codes "**") FitsSegment is_any_segments fits_segment any_is is_any segment_fits fits_from (slice_split is_slash pattern) (slice_split is_slash path) h),
  (λ h. from_relation (λ p. p ≡ codes "**") FitsSegment is_any_segments fits_segment any_is is_any segment_fits fits_from h),
)
