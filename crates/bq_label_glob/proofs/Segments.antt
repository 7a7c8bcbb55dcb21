-- The segments from a place of a path on.
use Rattle.std.proofs.Common.{◌≡◌, ◌≢◌, ◌+◌, ◌-◌, ◌<◌, ◌≤◌, ℕ, zero, suc, true, false, List, [], ◌∷◌, length, take, drop, slice_index, nat_le, refl, sym, ap, subst, ◌∙◌, arith, inl, inr}
use Rattle.std.proofs.lemmas.Bool.{cases_lt}
use Rattle.std.proofs.lemmas.Bool.Decides.{nat_tests}
use Rattle.std.specs.List.{slice_split, onto_first}
use Rattle.std.proofs.lemmas.List.Splits.{slice_split-cons_yes, slice_split-cons_no}
use Rattle.bq_label.specs.Paths.{is_slash}
use Rattle.bq_label_glob.specs.Matching.{segments_from, takes, matches, is_any_segments, fits_segment}

pub slash : (b : ℕ) → b ≡ 47 → is_slash b ≡ true
slash b e = grind (arith, nat_tests)

no_slash : (b : ℕ) → b ≢ 47 → is_slash b ≡ false
no_slash b n = grind (arith, nat_tests)

cut_here : (xs : List ℕ) (n : ℕ) → n < length xs → ((k : ℕ) → k < n → slice_index xs k ≢ 47) → slice_index xs n ≡ 47 → slice_split is_slash xs ≡ take n xs ∷ slice_split is_slash (drop (suc n) xs)
cut_here [] n l f e = absurd (omega arith)
cut_here (x ∷ xs) zero l f e = slice_split-cons_yes is_slash x xs (slash x e)
cut_here (x ∷ xs) (suc n) l f e = slice_split-cons_no is_slash x xs (no_slash x (f 0 (omega arith))) ∙ ap (onto_first x) (cut_here xs n (omega arith) (λ k h. f (suc k) (omega arith)) e)

pub cut_end : (xs : List ℕ) → ((k : ℕ) → k < length xs → slice_index xs k ≢ 47) → slice_split is_slash xs ≡ xs ∷ []
cut_end [] f = refl
cut_end (x ∷ xs) f = slice_split-cons_no is_slash x xs (no_slash x (f 0 (omega arith))) ∙ ap (onto_first x) (cut_end xs (λ k h. f (suc k) (omega arith)))

drop_empty : (n : ℕ) → drop {A = ℕ} n [] ≡ []
drop_empty zero = refl
drop_empty (suc n) = refl

drop_drop : (xs : List ℕ) (i j : ℕ) → drop j (drop i xs) ≡ drop (i + j) xs
drop_drop xs zero j = let same : j ≡ 0 + j = omega arith in ap (λ (n : ℕ). drop n xs) same
drop_drop [] (suc i) j = drop_empty j ∙ sym (drop_empty (suc i + j))
drop_drop (x ∷ xs) (suc i) j = let more : suc i + j ≡ suc (i + j) = omega arith in drop_drop xs i j ∙ sym (ap (λ (n : ℕ). drop n (x ∷ xs)) more)

length_drop : (xs : List ℕ) (i : ℕ) → i ≤ length xs → length (drop i xs) + i ≡ length xs
length_drop xs zero l = omega arith
length_drop [] (suc i) l = absurd (omega arith)
length_drop (x ∷ xs) (suc i) l = let less = length_drop xs i (omega arith) in omega (arith, less)

take_all : (xs : List ℕ) (n : ℕ) → n ≡ length xs → take n xs ≡ xs
take_all [] zero e = refl
take_all [] (suc n) e = refl
take_all (x ∷ xs) zero e = absurd (omega arith)
take_all (x ∷ xs) (suc n) e = ap (λ t. x ∷ t) (take_all xs n (omega arith))

length_take : (xs : List ℕ) (n : ℕ) → n ≤ length xs → length (take n xs) ≡ n
length_take xs zero l = refl
length_take [] (suc n) l = absurd (omega arith)
length_take (x ∷ xs) (suc n) l = let less = length_take xs n (omega arith) in omega (arith, less)

within : (path : List ℕ) (at : ℕ) → at ≤ length path → segments_from path at ≡ slice_split is_slash (drop at path)
unfolding segments_from
within path at l = let yes : nat_le at (length path) ≡ true = grind (arith, nat_tests) in rw yes refl

pub past_end : (path : List ℕ) (at : ℕ) → length path < at → segments_from path at ≡ []
unfolding segments_from
past_end path at l = let no : nat_le at (length path) ≡ false = grind (arith, nat_tests) in rw no refl

-- the segment from a place on, and those after it
pub first_segment : (path : List ℕ) (at n : ℕ) → at ≤ length path → n ≤ length (drop at path)
    → ((k : ℕ) → k < n → slice_index (drop at path) k ≢ 47) → (n < length (drop at path) → slice_index (drop at path) n ≡ 47)
    → (s : List ℕ) → s ≡ take n (drop at path) → segments_from path at ≡ s ∷ segments_from path (at + length s + 1)
first_segment path at n l r f e s is =
    let rest : List ℕ = drop at path in
    let size : length s ≡ n = ap length is ∙ length_take rest n r in
    let all : length rest + at ≡ length path = length_drop path at l in
    elim (cases_lt n (length rest)) [
      | inl less ↦
          let next : at + length s + 1 ≡ at + suc n = omega arith in
          within path at l ∙ (cut_here rest n less f (e less)
          ∙ (ap (λ t. t ∷ slice_split is_slash (drop (suc n) rest)) (sym is)
          ∙ ap (λ t. s ∷ t) (ap (λ (t : List ℕ). slice_split is_slash t) (drop_drop path at (suc n)) ∙ (sym (within path (at + suc n) (omega arith)) ∙ ap (segments_from path) (sym next)))))
      | inr more ↦
          let end : n ≡ length rest = omega arith in
          let whole : s ≡ rest = is ∙ take_all rest n end in
          within path at l ∙ (cut_end rest (λ k h. f k (omega arith))
          ∙ (ap (λ t. t ∷ []) (sym whole) ∙ ap (λ t. s ∷ t) (sym (past_end path (at + length s + 1) (omega arith)))))
    ]

-- the same of what is left as a range of the path
pub segment_is : (path : List ℕ) (at n : ℕ) → at ≤ length path → n ≤ length (take (length path - at) (drop at path))
    → ((k : ℕ) → k < n → slice_index (take (length path - at) (drop at path)) k ≢ 47)
    → (n < length (take (length path - at) (drop at path)) → slice_index (take (length path - at) (drop at path)) n ≡ 47)
    → segments_from path at ≡ take n (take (length path - at) (drop at path)) ∷ segments_from path (at + length (take n (take (length path - at) (drop at path))) + 1)
segment_is path at n l r f e =
    let size = length_drop path at l in
    let whole : take (length path - at) (drop at path) ≡ drop at path = take_all (drop at path) (length path - at) (omega (arith, size)) in
    first_segment path at n l
    (subst (λ (t : List ℕ). n ≤ length t) whole r)
    (subst (λ (t : List ℕ). (k : ℕ) → k < n → slice_index t k ≢ 47) whole f)
    (subst (λ (t : List ℕ). n < length t → slice_index t n ≡ 47) whole e)
    (take n (take (length path - at) (drop at path))) (ap (take n) whole)

pub drop_first : (xs : List ℕ) (i : ℕ) → i < length xs → drop i xs ≡ slice_index xs i ∷ drop (i + 1) xs
drop_first xs i l = let next : i + 1 ≡ suc i = omega arith in first xs i l ∙ ap (λ (n : ℕ). slice_index xs i ∷ drop n xs) (sym next)
  where
    first : (ys : List ℕ) (j : ℕ) → j < length ys → drop j ys ≡ slice_index ys j ∷ drop (suc j) ys
    first [] j m = absurd (omega arith)
    first (y ∷ ys) zero m = refl
    first (y ∷ ys) (suc j) m = first ys j (omega arith)

pub from_start : (path : List ℕ) → segments_from path 0 ≡ slice_split is_slash path
from_start path = within path 0 (omega arith)

pub matches_from_start : (pattern path : List ℕ) → matches pattern path ≡ takes is_any_segments fits_segment (segments_from pattern 0) (segments_from path 0)
unfolding matches
matches_from_start pattern path =
    ap (λ (t : List (List ℕ)). takes is_any_segments fits_segment t (slice_split is_slash path)) (sym (from_start pattern))
    ∙ ap (λ (t : List (List ℕ)). takes is_any_segments fits_segment (segments_from pattern 0) t) (sym (from_start path))
