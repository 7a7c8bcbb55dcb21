-- A pattern without a star matches itself alone.
use Rattle.std.proofs.Common.{◌≡◌, ◌↔◌, ℕ, Bool, true, false, List, [], ◌∷◌, codes, refl, sym, ap, ◌∙◌, arith, inl, inr}
use Rattle.std.proofs.lemmas.Bool.{cases_Bool, false≢true}
use Rattle.std.proofs.lemmas.Bool.Decides.{nat_tests}
use Rattle.std.specs.List.{slice_split, onto_first, list_any, join_with_byte, AllByRecursion}
use Rattle.std.proofs.lemmas.List.Splits.{join_with_byte-slice_split}
use Rattle.bq_label.specs.Paths.{is_slash}
use Rattle.bq_label.proofs.Above.{same_bytes}
use Rattle.bq_label_glob.specs.Matching.{takes, is_star, is_same, fits_segment, is_any_segments, matches}
use Rattle.bq_label_glob.proofs.Greedy.{one_of, opened_one}

-- a pattern of elements that take one each, each of which only the same fits
module _ {A : Type 0} (many : A → Bool) (fits : A → A → Bool) where
  pub record IsPlain (a : A) : Type 0 where
    pub single : many a ≡ false
    pub itself : fits a a ≡ true
    pub alone : (x : A) → fits a x ≡ true → a ≡ x

  none_taken : (xs : List A) → takes many fits [] xs ≡ true → [] ≡ xs
  unfolding takes
  none_taken [] h = refl
  none_taken (x ∷ xs) h = absurd (false≢true h)

  pub same_list : (ps xs : List A) → AllByRecursion IsPlain ps → takes many fits ps xs ≡ true → ps ≡ xs
  same_list [] xs plain h = none_taken xs h
  same_list (p ∷ ps) xs plain h =
      let o = one_of many fits p ps xs plain.0.single h in
      ap (λ a. a ∷ ps) (plain.0.alone o.0 o.4) ∙ (ap (λ v. o.0 ∷ v) (same_list ps o.1 plain.1 o.3) ∙ sym o.2)

  empty : takes many fits [] [] ≡ true
  unfolding takes
  empty = refl

  pub takes_itself : (ps : List A) → AllByRecursion IsPlain ps → takes many fits ps ps ≡ true
  takes_itself [] plain = empty
  takes_itself (p ∷ ps) plain = opened_one many fits p ps p ps plain.0.single plain.0.itself ∙ takes_itself ps plain.1

pub no_star : (b : ℕ) (bs : List ℕ) → list_any is_star (b ∷ bs) ≡ false → is_star b ≡ false
no_star b bs h = elim (cases_Bool (is_star b)) [ inl y ↦ absurd (false≢true (sym h ∙ rw y refl)) | inr n ↦ n ]

pub no_more_stars : (b : ℕ) (bs : List ℕ) → list_any is_star (b ∷ bs) ≡ false → list_any is_star bs ≡ false
no_more_stars b bs h = sym (rw (no_star b bs h) refl) ∙ h

plain_byte : (b : ℕ) → is_star b ≡ false → IsPlain is_star is_same b
plain_byte b n = record { single = n; itself = grind (arith, nat_tests); alone = λ x e. grind (arith, nat_tests) }

plain_bytes : (bs : List ℕ) → list_any is_star bs ≡ false → AllByRecursion (IsPlain is_star is_same) bs
plain_bytes [] h = tt
plain_bytes (b ∷ bs) h = (plain_byte b (no_star b bs h), plain_bytes bs (no_more_stars b bs h))

pub segment_itself : (s : List ℕ) → list_any is_star s ≡ false → fits_segment s s ≡ true
unfolding fits_segment
segment_itself s h = takes_itself is_star is_same s (plain_bytes s h)

pub segment_alone : (s : List ℕ) → list_any is_star s ≡ false → (x : List ℕ) → fits_segment s x ≡ true → s ≡ x
unfolding fits_segment
segment_alone s h x f = same_list is_star is_same s x (plain_bytes s h) f

plain_segment : (s : List ℕ) → list_any is_star s ≡ false → IsPlain is_any_segments fits_segment s
plain_segment s h = record { single = not_any s h; itself = segment_itself s h; alone = segment_alone s h }
  where
    not_any : (t : List ℕ) → list_any is_star t ≡ false → is_any_segments t ≡ false
    not_any t n = elim (cases_Bool (is_any_segments t)) [
      | inl y ↦ let e : t ≡ codes "**" = same_bytes t (codes "**") y in absurd (false≢true (sym n ∙ ap (λ (v : List ℕ). list_any is_star v) e))
      | inr m ↦ m
    ]

onto_plain : (b : ℕ) (ss : List (List ℕ)) → is_star b ≡ false → AllByRecursion (λ s. list_any is_star s ≡ false) ss → AllByRecursion (λ s. list_any is_star s ≡ false) (onto_first b ss)
onto_plain b [] n h = (rw n refl, tt)
onto_plain b (s ∷ ss) n h = (rw n h.0, h.1)

plain_parts : (bs : List ℕ) → list_any is_star bs ≡ false → AllByRecursion (λ s. list_any is_star s ≡ false) (slice_split is_slash bs)
plain_parts [] h = (refl, tt)
plain_parts (b ∷ bs) h = elim (cases_Bool (is_slash b)) [
  | inl y ↦ rw y (refl, plain_parts bs (no_more_stars b bs h))
  | inr n ↦ rw n (onto_plain b (slice_split is_slash bs) (no_star b bs h) (plain_parts bs (no_more_stars b bs h)))
]

plain_segments : (ss : List (List ℕ)) → AllByRecursion (λ s. list_any is_star s ≡ false) ss → AllByRecursion (IsPlain is_any_segments fits_segment) ss
plain_segments [] h = tt
plain_segments (s ∷ ss) h = (plain_segment s h.0, plain_segments ss h.1)

same_parts : (xs ys : List ℕ) → slice_split is_slash xs ≡ slice_split is_slash ys → xs ≡ ys
same_parts xs ys e = sym (join_with_byte-slice_split 47 xs) ∙ (ap (join_with_byte 47) e ∙ join_with_byte-slice_split 47 ys)

pub itself_alone : (pattern path : List ℕ) → list_any is_star pattern ≡ false → (matches pattern path ≡ true) ↔ (pattern ≡ path)
unfolding matches
itself_alone pattern path h =
    let parts = plain_segments (slice_split is_slash pattern) (plain_parts pattern h) in (
      (λ m. same_parts pattern path (same_list is_any_segments fits_segment (slice_split is_slash pattern) (slice_split is_slash path) parts m)),
      (λ e. ap (λ (v : List ℕ). takes is_any_segments fits_segment (slice_split is_slash pattern) (slice_split is_slash v)) (sym e) ∙ takes_itself is_any_segments fits_segment (slice_split is_slash pattern) parts),
    )
