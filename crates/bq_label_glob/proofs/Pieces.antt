-- What a star and the pieces after it take: each piece may be taken where the text has it first.
use Rattle.std.proofs.Common.{◌≡◌, ◌+◌, ◌-◌, ◌<◌, ◌≤◌, ◌++◌, ℕ, zero, suc, Bool, true, false, List, [], ◌∷◌, Option, Some, None, is_some, ◌||◌, length, take, drop, slice_index, nat_eq, refl, sym, ap, subst, ◌∙◌, arith, inl, inr, length-append, length-take-le}
use Rattle.std.proofs.lemmas.Bool.{cases_Bool, cases_lt, false≢true}
use Rattle.std.proofs.lemmas.Cmp.{nat_list_eq_equiv}
use Rattle.std.proofs.lemmas.List.{take-append-drop}
use Rattle.std.proofs.lemmas.List.Folds.{list_any-append}
use Rattle.std.proofs.Math.Seq.{drop-append_seam, take-append_seam}
use Rattle.std.specs.List.{list_any, starts_with, ends_with}
use Rattle.std.specs.Cmp.Lexicographic.{pointwise, same_text}
use Rattle.memchr.specs.Find.{OccursAt, FindsNeedle, IsFirstByte, is_byte}
use Rattle.memchr.proofs.lemmas.MatchLemmas.{OccursAt-from_part, OccursAt-split}
use Rattle.bq_label_glob.specs.Matching.{any_tail, takes, is_star, is_same, fits_segment}
use Rattle.bq_label_glob.specs.Segment.{IsCutAtStar, IsAfterFirst, IsNowhere}
use Rattle.bq_label_glob.proofs.Greedy.{IsTail, tail_trans, tail_of_rest, same_rest, any_from, any_found, one_of, opened, opened_one}
use Rattle.bq_label_glob.proofs.Cuttings.{tail_of, front_of, star_is, same_is, is_the_same}
use Rattle.bq_label_glob.proofs.Literals.{no_star, no_more_stars, segment_itself, segment_alone}
use Rattle.bq_label_glob.proofs.Segments.{drop_first}

same_answer : (a b : Bool) → (a ≡ true → b ≡ true) → (b ≡ true → a ≡ true) → a ≡ b
same_answer true b f g = sym (f refl)
same_answer false true f g = g refl
same_answer false false f g = refl

-- ---- the tails of a text

tail_at : (i : ℕ) (xs : List ℕ) → IsTail (drop i xs) xs
tail_at i xs = subst (λ (v : List ℕ). IsTail (drop i xs) v) (take-append-drop i xs) (tail_of (take i xs) (drop i xs))

more_tails : (f : List ℕ → Bool) (ys zs : List ℕ) → IsTail ys zs → any_tail f ys ≡ true → any_tail f zs ≡ true
more_tails f ys zs t h =
    let found = any_found f ys h in
    any_from f found.rest zs (tail_trans found.rest ys zs found.in_it t) found.passes

-- what follows the later place of two is a tail of what follows the earlier
later_tail : (before us taken vs : List ℕ) → before ++ us ≡ taken ++ vs → length before ≤ length taken → IsTail vs us
later_tail [] us taken vs e l = subst (λ (ws : List ℕ). IsTail vs ws) (sym e) (tail_of taken vs)
later_tail (b ∷ bs) us [] vs e l = absurd (omega (arith, l))
later_tail (b ∷ bs) us (t ∷ ts) vs e l = later_tail bs us ts vs (same_rest b t (bs ++ us) (ts ++ vs) e) (omega (arith, l))

tail_after : (piece ys zs : List ℕ) → IsTail (piece ++ ys) (piece ++ zs) → IsTail ys zs
tail_after [] ys zs t = t
tail_after (p ∷ ps) ys zs t = tail_after ps ys zs (tail_of_rest p (ps ++ ys) p (ps ++ zs) t)

-- ---- a piece and the star after it

module _ (more : List ℕ) where
  taken_piece : (piece xs : List ℕ) → list_any is_star piece ≡ false → takes is_star is_same (piece ++ 42 ∷ more) xs ≡ true → (ys : List ℕ) × (xs ≡ piece ++ ys) × (any_tail (takes is_star is_same more) ys ≡ true)
  taken_piece [] xs n h = (xs, refl, sym (opened is_star is_same 42 more xs refl) ∙ h)
  taken_piece (p ∷ ps) xs n h =
      let o = one_of is_star is_same p (ps ++ 42 ∷ more) xs (no_star p ps n) h in
      let r = taken_piece ps o.1 (no_more_stars p ps n) o.3 in
      (r.0, o.2 ∙ (ap (λ (b : ℕ). b ∷ o.1) (sym (same_is p o.0 o.4)) ∙ ap (λ (v : List ℕ). p ∷ v) r.1), r.2)

  takes_piece : (piece ys : List ℕ) → list_any is_star piece ≡ false → any_tail (takes is_star is_same more) ys ≡ true → takes is_star is_same (piece ++ 42 ∷ more) (piece ++ ys) ≡ true
  takes_piece [] ys n h = opened is_star is_same 42 more ys refl ∙ h
  takes_piece (p ∷ ps) ys n h =
      opened_one is_star is_same p (ps ++ 42 ∷ more) p (ps ++ ys) (no_star p ps n) (is_the_same p p refl) ∙ takes_piece ps ys (no_more_stars p ps n) h

  -- the pattern takes some end of the text: so the text has the piece, and what follows it there has an end that the rest takes
  record Place (piece text : List ℕ) : Type 0 where
    before : List ℕ
    after : List ℕ
    whole : text ≡ before ++ (piece ++ after)
    fits : any_tail (takes is_star is_same more) after ≡ true

  some_place : (piece text : List ℕ) → list_any is_star piece ≡ false → any_tail (takes is_star is_same (piece ++ 42 ∷ more)) text ≡ true → Place piece text
  some_place piece text n h =
      let found = any_found (takes is_star is_same (piece ++ 42 ∷ more)) text h in
      let front = front_of found.rest text found.in_it in
      let left = taken_piece piece found.rest n found.passes in
      record { before = front.0; after = left.0; whole = front.1 ∙ ap (λ (v : List ℕ). front.0 ++ v) left.1; fits = left.2 }

  first_place : (piece text rest : List ℕ) → list_any is_star piece ≡ false → IsAfterFirst piece text rest → any_tail (takes is_star is_same (piece ++ 42 ∷ more)) text ≡ any_tail (takes is_star is_same more) rest
  first_place piece text rest n c = same_answer (any_tail (takes is_star is_same (piece ++ 42 ∷ more)) text) (any_tail (takes is_star is_same more) rest)
      (λ h.
      let place = some_place piece text n h in
      let later = later_tail c.before (piece ++ rest) place.before (piece ++ place.after) (sym c.whole ∙ place.whole) (c.first place.before place.after place.whole) in
      more_tails (takes is_star is_same more) place.after rest (tail_after piece place.after rest later) place.fits)
      (λ h. any_from (takes is_star is_same (piece ++ 42 ∷ more)) (piece ++ rest) text
      (subst (λ (v : List ℕ). IsTail (piece ++ rest) v) (sym c.whole) (tail_of c.before (piece ++ rest))) (takes_piece piece rest n h))

  no_place : (piece text : List ℕ) → list_any is_star piece ≡ false → IsNowhere piece text → any_tail (takes is_star is_same (piece ++ 42 ∷ more)) text ≡ false
  no_place piece text n none = elim (cases_Bool (any_tail (takes is_star is_same (piece ++ 42 ∷ more)) text)) [
    | inl y ↦ let place = some_place piece text n y in absurd (none place.before place.after place.whole)
    | inr other ↦ other
  ]

pub next_piece : (pattern piece more text rest : List ℕ) → IsCutAtStar pattern piece more → IsAfterFirst piece text rest → any_tail (fits_segment pattern) text ≡ any_tail (fits_segment more) rest
unfolding fits_segment
next_piece pattern piece more text rest c a =
    ap (λ (p : List ℕ). any_tail (takes is_star is_same p) text) c.whole ∙ first_place more piece text rest c.plain a

pub piece_missing : (pattern piece more text : List ℕ) → IsCutAtStar pattern piece more → IsNowhere piece text → any_tail (fits_segment pattern) text ≡ false
unfolding fits_segment
piece_missing pattern piece more text c none =
    ap (λ (p : List ℕ). any_tail (takes is_star is_same p) text) c.whole ∙ no_place more piece text c.plain none

-- ---- the first piece and the last

begins : (piece rest : List ℕ) → starts_with nat_eq (piece ++ rest) piece ≡ true
begins piece rest = subst (λ (t : List ℕ). pointwise nat_eq piece t ≡ true) (sym (take-append_seam piece rest)) (nat_list_eq_equiv.refl piece)

pub first_fits : (pattern piece more text rest : List ℕ) → IsCutAtStar pattern piece more → starts_with nat_eq text piece ≡ true → rest ≡ drop (length piece) text → fits_segment pattern text ≡ any_tail (fits_segment more) rest
unfolding fits_segment
first_fits pattern piece more text rest c s e =
    let same : piece ≡ take (length piece) text = same_text piece (take (length piece) text) (sym s) in
    let whole : text ≡ piece ++ rest = sym (take-append-drop (length piece) text) ∙ (ap (λ (t : List ℕ). t ++ drop (length piece) text) (sym same) ∙ ap (λ (t : List ℕ). piece ++ t) (sym e)) in
    ap (λ (p : List ℕ). takes is_star is_same p text) c.whole
    ∙ same_answer (takes is_star is_same (piece ++ 42 ∷ more) text) (any_tail (takes is_star is_same more) rest)
    (λ h.
    let left = taken_piece more piece text c.plain h in
    let after : left.0 ≡ rest = sym (drop-append_seam piece left.0) ∙ (ap (drop (length piece)) (sym left.1) ∙ sym e) in
    subst (λ (v : List ℕ). any_tail (takes is_star is_same more) v ≡ true) after left.2)
    (λ h. ap (takes is_star is_same (piece ++ 42 ∷ more)) whole ∙ takes_piece more piece rest c.plain h)

pub first_misfits : (pattern piece more text : List ℕ) → IsCutAtStar pattern piece more → starts_with nat_eq text piece ≡ false → fits_segment pattern text ≡ false
unfolding fits_segment
first_misfits pattern piece more text c s = elim (cases_Bool (takes is_star is_same (piece ++ 42 ∷ more) text)) [
  | inl y ↦
      let left = taken_piece more piece text c.plain y in
      absurd (false≢true (sym s ∙ (ap (λ (t : List ℕ). starts_with nat_eq t piece) left.1 ∙ begins piece left.0)))
  | inr n ↦ ap (λ (p : List ℕ). takes is_star is_same p text) c.whole ∙ n
]

ends : (taken piece text : List ℕ) → text ≡ taken ++ piece → ends_with nat_eq text piece ≡ true
ends taken piece text e =
    let size : length text - length piece ≡ length taken = omega (arith, ap length e, length-append taken piece) in
    let end : drop (length text - length piece) text ≡ piece = ap (λ (n : ℕ). drop n text) size ∙ (ap (drop (length taken)) e ∙ drop-append_seam taken piece) in
    subst (λ (t : List ℕ). pointwise nat_eq piece t ≡ true) (sym end) (nat_list_eq_equiv.refl piece)

pub last_piece : (piece text : List ℕ) → list_any is_star piece ≡ false → any_tail (fits_segment piece) text ≡ ends_with nat_eq text piece
last_piece piece text n = same_answer (any_tail (fits_segment piece) text) (ends_with nat_eq text piece)
    (λ h.
    let found = any_found (fits_segment piece) text h in
    let front = front_of found.rest text found.in_it in
    ends front.0 piece text (front.1 ∙ ap (λ (v : List ℕ). front.0 ++ v) (sym (segment_alone piece n found.rest found.passes))))
    (λ h.
    let end : piece ≡ drop (length text - length piece) text = same_text piece (drop (length text - length piece) text) (sym h) in
    any_from (fits_segment piece) piece text (subst (λ (v : List ℕ). IsTail v text) (sym end) (tail_at (length text - length piece) text)) (segment_itself piece n))

-- a pattern of one piece
pub only_piece : (piece text : List ℕ) (same : Bool) → list_any is_star piece ≡ false → same ≡ pointwise nat_eq piece text → same ≡ fits_segment piece text
only_piece piece text same n e = same_answer same (fits_segment piece text)
    (λ h. subst (λ (t : List ℕ). fits_segment piece t ≡ true) (same_text piece text (sym h ∙ e)) (segment_itself piece n))
    (λ h. e ∙ subst (λ (t : List ℕ). pointwise nat_eq piece t ≡ true) (segment_alone piece n text h) (nat_list_eq_equiv.refl piece))

-- ---- what the searches find

not_star : (b : ℕ) → (is_byte 42 b ≡ true → ⊥) → is_star b ≡ false
not_star b n = elim (cases_Bool (is_star b)) [ inl y ↦ absurd (n y) | inr other ↦ other ]

no_star_before : (xs : List ℕ) (k : ℕ) → k ≤ length xs → ((j : ℕ) → j < k → is_byte 42 (slice_index xs j) ≡ true → ⊥) → list_any is_star (take k xs) ≡ false
no_star_before xs zero l n = refl
no_star_before [] (suc k) l n = absurd (omega (arith, l))
no_star_before (x ∷ xs) (suc k) l n =
    rw (not_star x (n 0 (omega arith))) (no_star_before xs k (omega (arith, l)) (λ j m. n (suc j) (omega (arith, m))))

no_star_in : (xs : List ℕ) → ((j : ℕ) → j < length xs → is_byte 42 (slice_index xs j) ≡ true → ⊥) → list_any is_star xs ≡ false
no_star_in [] n = refl
no_star_in (x ∷ xs) n = rw (not_star x (n 0 (omega arith))) (no_star_in xs (λ j m. n (suc j) (omega (arith, m))))

pub star_found : (pattern : List ℕ) (at : ℕ) → IsFirstByte (is_byte 42) pattern (Some at) → IsCutAtStar pattern (take at pattern) (drop (at + 1) pattern)
star_found pattern at h =
    let star : slice_index pattern at ≡ 42 = star_is (slice_index pattern at) h.1 in
    record {
      whole = sym (take-append-drop at pattern) ∙ ap (λ (t : List ℕ). take at pattern ++ t) (drop_first pattern at h.0.high ∙ ap (λ (b : ℕ). b ∷ drop (at + 1) pattern) star);
      plain = no_star_before pattern at (omega (arith, h.0.high)) (λ j l. h.0.before j (omega arith) l);
    }

pub no_star_found : (pattern : List ℕ) → IsFirstByte (is_byte 42) pattern None → list_any is_star pattern ≡ false
no_star_found pattern h = no_star_in pattern (λ j l. h j (omega arith) l)

-- a star is there where one is found
pub has_star_by : (text : List ℕ) (found : Option ℕ) (result : Bool) → IsFirstByte (is_byte 42) text found → result ≡ is_some found → result ≡ list_any is_star text
has_star_by text None result h e = e ∙ sym (no_star_found text h)
has_star_by text (Some at) result h e =
    let cut = star_found text at h in
    e ∙ sym (ap (list_any is_star) cut.whole ∙ (list_any-append is_star (take at text) (42 ∷ drop (at + 1) text) ∙ ap (λ (b : Bool). b || true) cut.plain))

occurs : (piece text before after : List ℕ) → text ≡ before ++ (piece ++ after) → OccursAt text piece (length before)
occurs piece text before after e =
    let rest : drop (length before) text ≡ piece ++ after = ap (drop (length before)) e ∙ drop-append_seam before (piece ++ after) in
    OccursAt-from_part text piece (length before)
    (omega (arith, ap length e, length-append before (piece ++ after), length-append piece after))
    (ap (take (length piece)) rest ∙ take-append_seam piece after)

pub piece_found : (piece text : List ℕ) (at : ℕ) → FindsNeedle text piece 0 (Some at) → IsAfterFirst piece text (drop (at + length piece) text)
piece_found piece text at h = record {
  before = take at text;
  whole = sym (take-append-drop at text) ∙ ap (λ (t : List ℕ). take at text ++ t) (OccursAt-split text piece at h.1);
  first = λ other later e. elim (cases_lt (length other) at) [
    | inl less ↦ absurd (h.0.before (length other) (omega arith) less (occurs piece text other later e))
    | inr more ↦ omega (arith, more, length-take-le at text (omega (arith, h.1.fits)))
  ];
}

pub no_piece_found : (piece text : List ℕ) → FindsNeedle text piece 0 None → IsNowhere piece text
no_piece_found piece text h before after e =
    let there = occurs piece text before after e in
    h (length before) (omega arith) (omega (arith, there.fits)) there
