-- What a search of `memchr` finds is the least place, and the greatest.
use Rattle.std.proofs.Common.{◌≡◌, ◌+◌, ◌<◌, ◌++◌, ℕ, zero, suc, true, false, List, [], ◌∷◌, Option, Some, None, length, take, drop, refl, sym, ap, subst, ◌∙◌, arith, inl, inr, nat_eq, length-append, length-take-le, length-take}
use Rattle.std.proofs.lemmas.Bool.{cases_Bool, false≢true}
use Rattle.std.proofs.lemmas.Cmp.{nat_list_eq_equiv}
use Rattle.std.proofs.lemmas.List.{take-append-drop}
use Rattle.std.proofs.Math.Seq.{drop-append_seam, take-append_seam}
use Rattle.std.specs.Option.{option_map}
use Rattle.std.specs.Cmp.Lexicographic.{pointwise, same_text}
use Rattle.memchr.specs.Find.{OccursAt, FindsNeedle, FindsLastNeedle}
use Rattle.memchr.proofs.lemmas.MatchLemmas.{OccursAt-part, OccursAt-from_part, OccursAt-split}
use Rattle.bq_builtin_strings.specs.Search.{begins, find, rfind, StandsAt, IsLeastPlace, IsGreatestPlace}
use Rattle.bq_builtin_strings.proofs.PartCases.{later}

-- ---- a text at the start, and further on

occurs_first : (sub text : List ℕ) → OccursAt text sub 0 → begins sub text ≡ true
occurs_first sub text o = subst (λ (t : List ℕ). pointwise nat_eq sub t ≡ true) (sym (OccursAt-part text sub 0 o)) (nat_list_eq_equiv.refl sub)

begins_occurs : (sub text : List ℕ) → begins sub text ≡ true → OccursAt text sub 0
begins_occurs sub text h =
    let same : sub ≡ take (length sub) text = same_text sub (take (length sub) text) (sym h) in
    OccursAt-from_part text sub 0 (omega (arith, ap length same, length-take (length sub) text)) (sym same)

occurs_later : (sub : List ℕ) (b : ℕ) (bs : List ℕ) (k : ℕ) → OccursAt bs sub k → OccursAt (b ∷ bs) sub (suc k)
occurs_later sub b bs k o = OccursAt-from_part (b ∷ bs) sub (suc k) (omega (arith, o.fits)) (OccursAt-part bs sub k o)

occurs_before : (sub : List ℕ) (b : ℕ) (bs : List ℕ) (k : ℕ) → OccursAt (b ∷ bs) sub (suc k) → OccursAt bs sub k
occurs_before sub b bs k o = OccursAt-from_part bs sub k (omega (arith, o.fits)) (OccursAt-part (b ∷ bs) sub (suc k) o)

-- ---- the least place

find_none : (sub text : List ℕ) → ((k : ℕ) → OccursAt text sub k → ⊥) → find sub text ≡ None
unfolding find
find_none sub [] n = elim (cases_Bool (begins sub [])) [ inl y ↦ absurd (n 0 (begins_occurs sub [] y)) | inr missing ↦ rw missing refl ]
find_none sub (b ∷ bs) n = elim (cases_Bool (begins sub (b ∷ bs))) [
  | inl y ↦ absurd (n 0 (begins_occurs sub (b ∷ bs) y))
  | inr missing ↦ rw (missing, find_none sub bs (λ k o. n (suc k) (occurs_later sub b bs k o))) refl
]

find_some : (sub text : List ℕ) (k : ℕ) → OccursAt text sub k → ((j : ℕ) → j < k → OccursAt text sub j → ⊥) → find sub text ≡ Some k
unfolding find
find_some sub [] zero o n = rw (occurs_first sub [] o) refl
find_some sub [] (suc k) o n = absurd (omega (arith, o.fits))
find_some sub (b ∷ bs) zero o n = rw (occurs_first sub (b ∷ bs) o) refl
find_some sub (b ∷ bs) (suc k) o n = elim (cases_Bool (begins sub (b ∷ bs))) [
  | inl y ↦ absurd (n 0 (omega arith) (begins_occurs sub (b ∷ bs) y))
  | inr missing ↦ rw (missing, find_some sub bs k (occurs_before sub b bs k o) (λ j l p. n (suc j) (omega arith) (occurs_later sub b bs j p))) refl
]

pub find_is : (sub text : List ℕ) (r : Option ℕ) → FindsNeedle text sub 0 r → r ≡ find sub text
find_is sub text None h = sym (find_none sub text (λ k o. h k (omega arith) (omega (arith, o.fits)) o))
find_is sub text (Some k) h = sym (find_some sub text k h.1 (λ j l o. h.0.before j (omega arith) l o))

-- ---- the greatest place

rfind_none : (sub text : List ℕ) → ((k : ℕ) → OccursAt text sub k → ⊥) → rfind sub text ≡ None
unfolding rfind
rfind_none sub [] n = elim (cases_Bool (begins sub [])) [ inl y ↦ absurd (n 0 (begins_occurs sub [] y)) | inr missing ↦ rw missing refl ]
rfind_none sub (b ∷ bs) n = elim (cases_Bool (begins sub (b ∷ bs))) [
  | inl y ↦ absurd (n 0 (begins_occurs sub (b ∷ bs) y))
  | inr missing ↦ ap (later (begins sub (b ∷ bs))) (rfind_none sub bs (λ k o. n (suc k) (occurs_later sub b bs k o))) ∙ rw missing refl
]

rfind_some : (sub text : List ℕ) (k : ℕ) → OccursAt text sub k → ((j : ℕ) → k < j → OccursAt text sub j → ⊥) → rfind sub text ≡ Some k
unfolding rfind
rfind_some sub [] zero o n = rw (occurs_first sub [] o) refl
rfind_some sub [] (suc k) o n = absurd (omega (arith, o.fits))
rfind_some sub (b ∷ bs) zero o n = ap (later (begins sub (b ∷ bs))) (rfind_none sub bs (λ k p. n (suc k) (omega arith) (occurs_later sub b bs k p))) ∙ rw (occurs_first sub (b ∷ bs) o) refl
rfind_some sub (b ∷ bs) (suc k) o n = ap (later (begins sub (b ∷ bs))) (rfind_some sub bs k (occurs_before sub b bs k o) (λ j l p. n (suc j) (omega arith) (occurs_later sub b bs j p)))

pub rfind_is : (sub text : List ℕ) (r : Option ℕ) → FindsLastNeedle text sub r → r ≡ rfind sub text
rfind_is sub text None h = sym (rfind_none sub text (λ k o. h k (omega arith) (omega (arith, o.fits)) o))
rfind_is sub text (Some k) h = sym (rfind_some sub text k h.1 (λ j l o. h.0.after j (omega arith) (omega (arith, o.fits)) o))

-- ---- in words

stands : (sub text : List ℕ) (k : ℕ) → OccursAt text sub k → StandsAt sub text k
stands sub text k o = record {
  before = take k text;
  after = drop (k + length sub) text;
  whole = sym (take-append-drop k text) ∙ ap (λ (t : List ℕ). take k text ++ t) (OccursAt-split text sub k o);
  place = length-take-le k text (omega (arith, o.fits));
}

pub occurs : (sub text : List ℕ) (k : ℕ) → StandsAt sub text k → OccursAt text sub k
occurs sub text k s =
    let rest : drop k text ≡ sub ++ s.after = ap (drop k) s.whole ∙ (ap (λ (n : ℕ). drop n (s.before ++ (sub ++ s.after))) (sym s.place) ∙ drop-append_seam s.before (sub ++ s.after)) in
    OccursAt-from_part text sub k
    (omega (arith, s.place, ap length s.whole, length-append s.before (sub ++ s.after), length-append sub s.after))
    (ap (take (length sub)) rest ∙ take-append_seam sub s.after)

abbrev OccursLeast : List ℕ → List ℕ → Option ℕ → Type 0
OccursLeast sub text None = (k : ℕ) → OccursAt text sub k → ⊥
OccursLeast sub text (Some at) = OccursAt text sub at × ((k : ℕ) → k < at → OccursAt text sub k → ⊥)

abbrev OccursGreatest : List ℕ → List ℕ → Option ℕ → Type 0
OccursGreatest sub text None = (k : ℕ) → OccursAt text sub k → ⊥
OccursGreatest sub text (Some at) = OccursAt text sub at × ((k : ℕ) → at < k → OccursAt text sub k → ⊥)

begins_not : (sub text : List ℕ) → begins sub text ≡ false → OccursAt text sub 0 → ⊥
begins_not sub text missing o = false≢true (sym missing ∙ occurs_first sub text o)

never : (sub : List ℕ) (b : ℕ) (bs : List ℕ) → begins sub (b ∷ bs) ≡ false → ((k : ℕ) → OccursAt bs sub k → ⊥) → (k : ℕ) → OccursAt (b ∷ bs) sub k → ⊥
never sub b bs missing n zero o = begins_not sub (b ∷ bs) missing o
never sub b bs missing n (suc k) o = n k (occurs_before sub b bs k o)

never_in_nothing : (sub : List ℕ) → begins sub [] ≡ false → (k : ℕ) → OccursAt [] sub k → ⊥
never_in_nothing sub missing zero o = begins_not sub [] missing o
never_in_nothing sub missing (suc k) o = omega (arith, o.fits)

least_later : (sub : List ℕ) (b : ℕ) (bs : List ℕ) (v : Option ℕ) → begins sub (b ∷ bs) ≡ false → OccursLeast sub bs v → OccursLeast sub (b ∷ bs) (option_map (λ k. suc k) v)
least_later sub b bs None missing h = never sub b bs missing h
least_later sub b bs (Some at) missing h = (occurs_later sub b bs at h.0, λ k l o. before k l o)
  where
    before : (k : ℕ) → k < suc at → OccursAt (b ∷ bs) sub k → ⊥
    before zero l o = begins_not sub (b ∷ bs) missing o
    before (suc k) l o = h.1 k (omega arith) (occurs_before sub b bs k o)

least : (sub text : List ℕ) → OccursLeast sub text (find sub text)
unfolding find
least sub [] = elim (cases_Bool (begins sub [])) [
  | inl y ↦ rw y (begins_occurs sub [] y, λ k l o. absurd (omega arith))
  | inr missing ↦ rw missing (never_in_nothing sub missing)
]
least sub (b ∷ bs) = elim (cases_Bool (begins sub (b ∷ bs))) [
  | inl y ↦ rw y (begins_occurs sub (b ∷ bs) y, λ k l o. absurd (omega arith))
  | inr missing ↦ rw missing (least_later sub b bs (find sub bs) missing (least sub bs))
]

greatest_later : (sub : List ℕ) (b : ℕ) (bs : List ℕ) (v : Option ℕ) → OccursGreatest sub bs v → OccursGreatest sub (b ∷ bs) (later (begins sub (b ∷ bs)) v)
greatest_later sub b bs None h = elim (cases_Bool (begins sub (b ∷ bs))) [
  | inl y ↦ rw y (begins_occurs sub (b ∷ bs) y, λ k l o. after k l o)
  | inr missing ↦ rw missing (never sub b bs missing h)
]
  where
    after : (k : ℕ) → 0 < k → OccursAt (b ∷ bs) sub k → ⊥
    after zero l o = omega arith
    after (suc k) l o = h k (occurs_before sub b bs k o)
greatest_later sub b bs (Some at) h = (occurs_later sub b bs at h.0, λ k l o. after k l o)
  where
    after : (k : ℕ) → suc at < k → OccursAt (b ∷ bs) sub k → ⊥
    after zero l o = omega arith
    after (suc k) l o = h.1 k (omega arith) (occurs_before sub b bs k o)

greatest : (sub text : List ℕ) → OccursGreatest sub text (rfind sub text)
unfolding rfind
greatest sub [] = elim (cases_Bool (begins sub [])) [
  | inl y ↦ rw y (begins_occurs sub [] y, λ k l o. in_nothing k l o)
  | inr missing ↦ rw missing (never_in_nothing sub missing)
]
  where
    in_nothing : (k : ℕ) → 0 < k → OccursAt [] sub k → ⊥
    in_nothing k l o = omega (arith, o.fits)
greatest sub (b ∷ bs) = greatest_later sub b bs (rfind sub bs) (greatest sub bs)

least_stands : (sub text : List ℕ) (v : Option ℕ) → OccursLeast sub text v → IsLeastPlace sub text v
least_stands sub text None h = λ k s. h k (occurs sub text k s)
least_stands sub text (Some at) h = (stands sub text at h.0, λ k l s. h.1 k l (occurs sub text k s))

greatest_stands : (sub text : List ℕ) (v : Option ℕ) → OccursGreatest sub text v → IsGreatestPlace sub text v
greatest_stands sub text None h = λ k s. h k (occurs sub text k s)
greatest_stands sub text (Some at) h = (stands sub text at h.0, λ k l s. h.1 k l (occurs sub text k s))

pub find_least : (sub text : List ℕ) → IsLeastPlace sub text (find sub text)
find_least sub text = least_stands sub text (find sub text) (least sub text)

pub rfind_greatest : (sub text : List ℕ) → IsGreatestPlace sub text (rfind sub text)
rfind_greatest sub text = greatest_stands sub text (rfind sub text) (greatest sub text)

-- what is before a place that is found, and what is after it
occurs_whole : (sub text : List ℕ) (at : ℕ) → OccursAt text sub at → text ≡ take at text ++ (sub ++ drop (at + length sub) text)
unfolding stands
occurs_whole sub text at o = (stands sub text at o).whole

pub found_whole : (sub text : List ℕ) (at : ℕ) → find sub text ≡ Some at → text ≡ take at text ++ (sub ++ drop (at + length sub) text)
found_whole sub text at e = occurs_whole sub text at (subst (OccursLeast sub text) e (least sub text)).0

pub rfound_whole : (sub text : List ℕ) (at : ℕ) → rfind sub text ≡ Some at → text ≡ take at text ++ (sub ++ drop (at + length sub) text)
rfound_whole sub text at e = occurs_whole sub text at (subst (OccursGreatest sub text) e (greatest sub text)).0
