-- How many bytes there are before the first header, from where a newline stands before one.
use Rattle.std.proofs.Common.{◌≡◌, ◌<◌, ◌+◌, ◌++◌, ◌==◌, ◌&&◌, ℕ, zero, suc, true, false, None, Some, List, [], ◌∷◌, length, take, drop, nat_eq, refl, sym, ap, subst, ◌∙◌, arith, add-one, length-take, inl, inr}
use Rattle.std.proofs.lemmas.Bool.{false_from_ne_true, cases_Bool, eqb-true, and_parts}
use Rattle.std.specs.Cmp.Lexicographic.{pointwise, same_text}
use Rattle.std.specs.List.{onto_first, starts_with}
use Rattle.memchr.specs.Find.{OccursAt, FindsNeedle}
use Rattle.memchr.proofs.lemmas.MatchLemmas.{OccursAt-part, OccursAt-from_part}
use Rattle.bq_run.specs.Bundle.{lines, Cut, cut, marker, is_header}
use Rattle.bq_run.specs.Written.{HasNoNewline}
use Rattle.bq_run.proofs.Lines.{cut_past, cut_here}

-- ---- a text begins with a header exactly if it begins with the marker

abbrev front : List (List ℕ) → List ℕ
front [] = []
front (l ∷ ls) = l

front_onto : (b : ℕ) (ls : List (List ℕ)) → front (onto_first b ls) ≡ b ∷ front ls
front_onto b [] = refl
front_onto b (l ∷ ls) = refl

-- the first line begins as the text does, as far as no newline is asked for
starts_line : (p text : List ℕ) → HasNoNewline p → starts_with nat_eq (front (lines text)) p ≡ starts_with nat_eq text p
starts_line [] text plain = refl
starts_line (q ∷ qs) [] plain = refl
starts_line (q ∷ qs) (b ∷ bs) plain = elim (cases_Bool (b == 10)) [
  | inl newline ↦ let differ : nat_eq q b ≡ false = subst (λ t. nat_eq q t ≡ false) (sym (eqb-true b 10 newline)) plain.0 in
      rw (newline, differ) refl
  | inr other ↦ rw (other, front_onto b (lines bs)) (ap (λ t. nat_eq q b && t) (starts_line qs bs plain.1))
]

header_is_marked : (text : List ℕ) → is_header (front (lines text)) ≡ starts_with nat_eq text marker
header_is_marked text = starts_line marker text (refl, (refl, (refl, (refl, tt))))

no_bytes_before : (ls : List (List ℕ)) → is_header (front ls) ≡ true → (cut ls).before ≡ []
no_bytes_before [] h = refl
no_bytes_before (l ∷ ls) h = ap (λ (c : Cut). c.before) (cut_here l ls h)

-- ---- a text that begins within a line

-- what lines are cut into where the first is no header, whatever it begins with
abbrev inside : List (List ℕ) → Cut
inside [] = record { before = []; parts = [] }
inside (l ∷ ls) = record { before = l ++ (cut ls).before; parts = (cut ls).parts }

-- a byte before what was cut
abbrev byte_before : ℕ → Cut → Cut
byte_before b c = record { before = b ∷ c.before; parts = c.parts }

inside_onto : (b : ℕ) (ls : List (List ℕ)) → inside (onto_first b ls) ≡ byte_before b (inside ls)
inside_onto b [] = refl
inside_onto b (l ∷ ls) = refl

inside_newline : (b : ℕ) (bs : List ℕ) → (b == 10) ≡ true → inside (lines (b ∷ bs)) ≡ byte_before b (cut (lines bs))
inside_newline b bs newline = rw newline refl

inside_other : (b : ℕ) (bs : List ℕ) → (b == 10) ≡ false → inside (lines (b ∷ bs)) ≡ byte_before b (inside (lines bs))
inside_other b bs other = rw other (inside_onto b (lines bs))

inside_is_cut : (ls : List (List ℕ)) → is_header (front ls) ≡ false → inside ls ≡ cut ls
inside_is_cut [] h = refl
inside_is_cut (l ∷ ls) h = sym (cut_past l ls h)

-- ---- where a header comes after a newline

-- c has what comes before place `at` of the text, where a header begins or the text ends, and then the parts from there on
pub record LeadsTo (c : Cut) (text : List ℕ) (at : ℕ) : Type 0 where
  pub bytes : c.before ≡ take at text
  pub parts : c.parts ≡ (cut (lines (drop at text))).parts
  pub stops : (cut (lines (drop at text))).before ≡ []

further : (b : ℕ) (bs : List ℕ) (c : Cut) (at : ℕ) → LeadsTo c bs at → LeadsTo (byte_before b c) (b ∷ bs) (suc at)
further b bs c at h = record { bytes = ap (λ t. b ∷ t) h.bytes; parts = h.parts; stops = h.stops }

abbrev pub next_header : List ℕ
next_header = 10 ∷ marker

occurs_first : (text : List ℕ) → starts_with nat_eq text next_header ≡ true → OccursAt text next_header 0
occurs_first text h =
    let same : next_header ≡ take 5 text = same_text next_header (take 5 text) (sym h) in
    OccursAt-from_part text next_header 0 (omega (arith, ap length same, length-take 5 text)) (sym same)

occurs_later : (b : ℕ) (bs : List ℕ) (k : ℕ) → OccursAt bs next_header k → OccursAt (b ∷ bs) next_header (suc k)
occurs_later b bs k o = OccursAt-from_part (b ∷ bs) next_header (suc k) (omega (arith, o.fits)) (OccursAt-part bs next_header k o)

occurs_before : (b : ℕ) (bs : List ℕ) (k : ℕ) → OccursAt (b ∷ bs) next_header (suc k) → OccursAt bs next_header k
occurs_before b bs k o = OccursAt-from_part bs next_header k (omega (arith, o.fits)) (OccursAt-part (b ∷ bs) next_header (suc k) o)

starts_there : (text : List ℕ) → OccursAt text next_header 0 → starts_with nat_eq text next_header ≡ true
starts_there text o = subst (λ (t : List ℕ). pointwise nat_eq next_header t ≡ true) (sym (OccursAt-part text next_header 0 o)) refl

-- one byte back, where it is no newline before a header
back : (b : ℕ) (bs : List ℕ) (at : ℕ) → ¬ OccursAt (b ∷ bs) next_header 0 → LeadsTo (inside (lines bs)) bs at → LeadsTo (inside (lines (b ∷ bs))) (b ∷ bs) (suc at)
back b bs at none h = elim (cases_Bool (b == 10)) [
  | inl newline ↦
      let unmarked : starts_with nat_eq bs marker ≡ false = false_from_ne_true _ (λ m. none (occurs_first (b ∷ bs) (starts b newline m))) in
      let same : inside (lines bs) ≡ cut (lines bs) = inside_is_cut (lines bs) (header_is_marked bs ∙ unmarked) in
      subst (λ c. LeadsTo c (b ∷ bs) (suc at)) (ap (byte_before b) same ∙ sym (inside_newline b bs newline)) (further b bs (inside (lines bs)) at h)
  | inr other ↦ subst (λ c. LeadsTo c (b ∷ bs) (suc at)) (sym (inside_other b bs other)) (further b bs (inside (lines bs)) at h)
] where
  starts : (b : ℕ) → (b == 10) ≡ true → starts_with nat_eq bs marker ≡ true → starts_with nat_eq (b ∷ bs) next_header ≡ true
  starts b newline marked = subst (λ t. starts_with nat_eq (t ∷ bs) next_header ≡ true) (sym (eqb-true b 10 newline)) marked

leads_to_header : (text : List ℕ) (k : ℕ) → OccursAt text next_header k → ((j : ℕ) → j < k → ¬ OccursAt text next_header j) → LeadsTo (inside (lines text)) text (suc k)
leads_to_header [] k o none = absurd (omega (arith, o.fits))
leads_to_header (b ∷ bs) zero o none =
    let two = and_parts (nat_eq 10 b) (starts_with nat_eq bs marker) (starts_there (b ∷ bs) o) in
    let newline : (b == 10) ≡ true = ap (λ t. t == 10) (sym (eqb-true 10 b two.0)) in
    let before : (cut (lines bs)).before ≡ [] = no_bytes_before (lines bs) (header_is_marked bs ∙ two.1) in
    subst (λ c. LeadsTo c (b ∷ bs) 1) (sym (inside_newline b bs newline)) (further b bs (cut (lines bs)) 0 (record { bytes = before; parts = refl; stops = before }))
leads_to_header (b ∷ bs) (suc k) o none =
    back b bs (suc k) (none 0 (omega arith)) (leads_to_header bs k (occurs_before b bs k o) (λ j less there. none (suc j) (omega arith) (occurs_later b bs j there)))

leads_to_end : (text : List ℕ) → ((j : ℕ) → ¬ OccursAt text next_header j) → LeadsTo (inside (lines text)) text (length text)
leads_to_end [] none = record { bytes = refl; parts = refl; stops = refl }
leads_to_end (b ∷ bs) none = back b bs (length bs) (none 0) (leads_to_end bs (λ j there. none (suc j) (occurs_later b bs j there)))

-- ---- what a search for a newline before a header says

pub starts_marked : (text : List ℕ) → starts_with nat_eq text marker ≡ true → LeadsTo (cut (lines text)) text 0
starts_marked text h =
    let before : (cut (lines text)).before ≡ [] = no_bytes_before (lines text) (header_is_marked text ∙ h) in
    record { bytes = before; parts = refl; stops = before }

from_inside : (text : List ℕ) (at : ℕ) → starts_with nat_eq text marker ≡ false → LeadsTo (inside (lines text)) text at → LeadsTo (cut (lines text)) text at
from_inside text at h = subst (λ c. LeadsTo c text at) (inside_is_cut (lines text) (header_is_marked text ∙ h))

pub found_at : (text : List ℕ) (k : ℕ) → starts_with nat_eq text marker ≡ false → FindsNeedle text next_header 0 (Some k) → LeadsTo (cut (lines text)) text (k + 1)
found_at text k h found = rw add-one (from_inside text (suc k) h (leads_to_header text k found.1 (λ j less. found.0.before j (omega arith) less)))

pub found_none : (text : List ℕ) → starts_with nat_eq text marker ≡ false → FindsNeedle text next_header 0 None → LeadsTo (cut (lines text)) text (length text)
found_none text h none = from_inside text (length text) h (leads_to_end text (λ j there. none j (omega arith) (omega (arith, there.fits)) there))
