-- The order of full forms, part by part.
use Rattle.std.proofs.Common.{◌≡◌, ◌≢◌, ◌≤◌, ◌++◌, ◌==◌, ◌⊎◌, ℕ, zero, suc, Bool, true, false, List, [], ◌∷◌, length, take, get_or, codes, refl, sym, ap, ◌∙◌, arith, inl, inr}
use Rattle.std.proofs.lemmas.Bool.{cases_Bool, false≢true}
use Rattle.std.proofs.lemmas.Bool.Decides.{nat_tests}
use Rattle.std.specs.List.{list_any}
use Rattle.std.specs.Prelude.{nat_eq}
use Rattle.std.specs.Ordering.{nat_cmp, ordering_then, is_eq}
use Rattle.bq_label.specs.Paths.{is_package, is_repository}
use Rattle.std.specs.Cmp.Lexicographic.{slice_cmp, pointwise, texts_ties}
use Rattle.std.specs.declared.cmp.Ordering.{Ordering}
use Rattle.std.specs.declared.cmp.Ordering.TheVariants.{Less, Equal, Greater}
use Rattle.std.proofs.lemmas.Cmp.{nat_cmp_total, tied_itself}
use Rattle.bq_label.specs.Label.{LabelParts, IsLabel, full_form, cmp_ended, cmp_names}
use Rattle.bq_label.proofs.Readings.{no_colon, no_slash}

then_assoc : (a b c : Ordering) → ordering_then (ordering_then a b) c ≡ ordering_then a (ordering_then b c)
then_assoc Less b c = refl
then_assoc Equal b c = refl
then_assoc Greater b c = refl

stays : (a b c : Ordering) → a ≢ Equal → ordering_then a b ≡ ordering_then a c
stays Less b c n = refl
stays Equal b c n = absurd (n refl)
stays Greater b c n = refl

is_tied : (x y : ℕ) → nat_cmp x y ≡ Equal → x ≡ y
is_tied x y h = grind (arith, nat_tests)

other_first : (c b : ℕ) (bs : List ℕ) → list_any (λ x. x == c) (b ∷ bs) ≡ false → b ≢ c
other_first c b bs h e = let same : (b == c) ≡ true = grind (arith, nat_tests) in false≢true (sym h ∙ rw same refl)

others : (c b : ℕ) (bs : List ℕ) → list_any (λ x. x == c) (b ∷ bs) ≡ false → list_any (λ x. x == c) bs ≡ false
others c b bs h = elim (cases_Bool (b == c)) [
  | inl y ↦ absurd (false≢true (sym h ∙ rw y refl))
  | inr n ↦ sym (rw n refl) ∙ h
]

-- what comes after decides where they tie
pub behind_end : (c : ℕ) (xs ys us vs : List ℕ) → list_any (λ x. x == c) xs ≡ false → list_any (λ x. x == c) ys ≡ false → slice_cmp nat_cmp (xs ++ c ∷ us) (ys ++ c ∷ vs) ≡ ordering_then (cmp_ended c xs ys) (slice_cmp nat_cmp us vs)
unfolding cmp_ended
behind_end c [] [] us vs n m = sym (then_assoc (nat_cmp c c) Equal (slice_cmp nat_cmp us vs))
behind_end c [] (y ∷ ys) us vs n m = stays (nat_cmp c y) _ _ (λ e. other_first c y ys m (sym (is_tied c y e))) ∙ sym (then_assoc (nat_cmp c y) _ _)
behind_end c (x ∷ xs) [] us vs n m = stays (nat_cmp x c) _ _ (λ e. other_first c x xs n (is_tied x c e)) ∙ sym (then_assoc (nat_cmp x c) _ _)
behind_end c (x ∷ xs) (y ∷ ys) us vs n m = ap (ordering_then (nat_cmp x y)) (behind_end c xs ys us vs (others c x xs n) (others c y ys m)) ∙ sym (then_assoc (nat_cmp x y) _ _)

-- the common beginning decides, and then the byte after it
pub ended_at : (k : ℕ) (c : ℕ) (xs ys : List ℕ) → list_any (λ x. x == c) xs ≡ false → list_any (λ x. x == c) ys ≡ false → k ≤ length xs → k ≤ length ys → ((k ≡ length xs) ⊎ (k ≡ length ys))
    → cmp_ended c xs ys ≡ ordering_then (slice_cmp nat_cmp (take k xs) (take k ys)) (nat_cmp (get_or xs k c) (get_or ys k c))
unfolding cmp_ended
ended_at zero c [] [] n m a b e = rw (tied_itself nat_cmp_total c) refl
ended_at zero c [] (y ∷ ys) n m a b e = at_first (nat_cmp c y) _ (λ h. other_first c y ys m (sym (is_tied c y h)))
  where
    at_first : (a b : Ordering) → a ≢ Equal → ordering_then a b ≡ a
    at_first Less b n = refl
    at_first Equal b n = absurd (n refl)
    at_first Greater b n = refl
ended_at zero c (x ∷ xs) [] n m a b e = at_first (nat_cmp x c) _ (λ h. other_first c x xs n (is_tied x c h))
  where
    at_first : (a b : Ordering) → a ≢ Equal → ordering_then a b ≡ a
    at_first Less b n = refl
    at_first Equal b n = absurd (n refl)
    at_first Greater b n = refl
ended_at zero c (x ∷ xs) (y ∷ ys) n m a b e = absurd (omega arith)
ended_at (suc k) c [] ys n m a b e = absurd (omega arith)
ended_at (suc k) c (x ∷ xs) [] n m a b e = absurd (omega arith)
ended_at (suc k) c (x ∷ xs) (y ∷ ys) n m a b e =
    ap (ordering_then (nat_cmp x y)) (ended_at k c xs ys (others c x xs n) (others c y ys m) (omega arith) (omega arith) (elim e [ inl l ↦ inl (omega arith) | inr r ↦ inr (omega arith) ])) ∙ sym (then_assoc (nat_cmp x y) _ _)

-- `package:name` of both labels
pub names_cmp : (a b : LabelParts) → IsLabel a → IsLabel b → slice_cmp nat_cmp (a.package ++ 58 ∷ a.name) (b.package ++ 58 ∷ b.name) ≡ cmp_names a b
names_cmp a b ha hb = behind_end 58 a.package b.package a.name b.name (no_colon a.package ha.valid_package) (no_colon b.package hb.valid_package)

same_names : (a b : LabelParts) → IsLabel a → IsLabel b → slice_cmp nat_cmp (codes "//" ++ (a.package ++ 58 ∷ a.name)) (codes "//" ++ (b.package ++ 58 ∷ b.name)) ≡ cmp_names a b
same_names a b ha hb = names_cmp a b ha hb

form_main : (l : LabelParts) → l.repo ≡ [] → full_form l ≡ codes "//" ++ (l.package ++ 58 ∷ l.name)
unfolding full_form
form_main l e = rw e refl

form_external : (l : LabelParts) (b : ℕ) (bs : List ℕ) → l.repo ≡ b ∷ bs → full_form l ≡ 64 ∷ (b ∷ bs ++ 47 ∷ 47 ∷ (l.package ++ 58 ∷ l.name))
unfolding full_form
form_external l b bs e = rw e refl

-- two labels of the main repository
pub cmp_main : (a b : LabelParts) → a.repo ≡ [] → b.repo ≡ [] → IsLabel a → IsLabel b → slice_cmp nat_cmp (full_form a) (full_form b) ≡ cmp_names a b
cmp_main a b ra rb ha hb = rw (form_main a ra, form_main b rb) (same_names a b ha hb)

some_repo : (r : List ℕ) → r ≢ [] → (b : ℕ) × (bs : List ℕ) × (r ≡ b ∷ bs)
some_repo [] n = absurd (n refl)
some_repo (b ∷ bs) n = (b, bs, refl)

-- the main repository's labels come first
pub cmp_first : (a b : LabelParts) → a.repo ≡ [] → b.repo ≢ [] → slice_cmp nat_cmp (full_form a) (full_form b) ≡ Less
cmp_first a b ra rb = let f = some_repo b.repo rb in rw (form_main a ra, form_external b f.0 f.1 f.2) refl

pub cmp_last : (a b : LabelParts) → a.repo ≢ [] → b.repo ≡ [] → slice_cmp nat_cmp (full_form a) (full_form b) ≡ Greater
cmp_last a b ra rb = let f = some_repo a.repo ra in rw (form_external a f.0 f.1 f.2, form_main b rb) refl

-- two labels of other repositories
pub cmp_external : (a b : LabelParts) → a.repo ≢ [] → b.repo ≢ [] → IsLabel a → IsLabel b → slice_cmp nat_cmp (full_form a) (full_form b) ≡ ordering_then (cmp_ended 47 a.repo b.repo) (cmp_names a b)
cmp_external a b ra rb ha hb =
    let f = some_repo a.repo ra in
    let g = some_repo b.repo rb in
    let x : full_form a ≡ 64 ∷ (a.repo ++ 47 ∷ 47 ∷ (a.package ++ 58 ∷ a.name)) = form_external a f.0 f.1 f.2 ∙ ap (λ (r : List ℕ). 64 ∷ (r ++ 47 ∷ 47 ∷ (a.package ++ 58 ∷ a.name))) (sym f.2) in
    let y : full_form b ≡ 64 ∷ (b.repo ++ 47 ∷ 47 ∷ (b.package ++ 58 ∷ b.name)) = form_external b g.0 g.1 g.2 ∙ ap (λ (r : List ℕ). 64 ∷ (r ++ 47 ∷ 47 ∷ (b.package ++ 58 ∷ b.name))) (sym g.2) in
    rw (x, y) (behind_end 47 a.repo b.repo (47 ∷ (a.package ++ 58 ∷ a.name)) (47 ∷ (b.package ++ 58 ∷ b.name)) (no_slash a.repo ha.valid_repo) (no_slash b.repo hb.valid_repo)
    ∙ ap (ordering_then (cmp_ended 47 a.repo b.repo)) (names_cmp a b ha hb))

pub plain_package : (l : LabelParts) (p : List ℕ) → IsLabel l → p ≡ l.package → list_any (λ b. b == 58) p ≡ false
plain_package l p h e = no_colon p (ap is_package e ∙ h.valid_package)

pub plain_repo : (l : LabelParts) (r : List ℕ) → IsLabel l → r ≡ l.repo → list_any (λ b. b == 47) r ≡ false
plain_repo l r h e = no_slash r (ap is_repository e ∙ h.valid_repo)

pub equal_forms : (a b : LabelParts) (o : Ordering) (r : Bool) → o ≡ slice_cmp nat_cmp (full_form a) (full_form b) → r ≡ is_eq o → r ≡ pointwise nat_eq (full_form a) (full_form b)
equal_forms a b o r e h = h ∙ (ap is_eq e ∙ sym (texts_ties (full_form a) (full_form b)))
