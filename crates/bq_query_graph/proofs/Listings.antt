-- A set as marks and as a list.
use Rattle.std.proofs.Common.{◌≡◌, ℕ, ◌+◌, ◌-◌, ◌<◌, ◌≤◌, Bool, true, false, List, [], ◌∷◌, ◌++◌, ◌⊎◌, inl, inr, length, get_or, drop, sym, refl, ap, ◌∙◌, subst, arith}
use Rattle.std.specs.Bool.{Decides}
use Rattle.std.specs.Prelude.{◌&&◌, ◌||◌, not, slice_range}
use Rattle.std.specs.List.{Contains}
use Rattle.std.specs.List.Sorted.{IsStrictlyIncreasing}
use Rattle.std.proofs.lemmas.List.{get_or_past, length_push, get_or_append_left, get_or_push, get_or-take, get_or-drop}
use Rattle.std.proofs.lemmas.List.Elements.{Contains-append_left, Contains-push, Contains-push_cases, Contains-get_or}
use Rattle.std.proofs.lemmas.Bool.{cases_eq, cases_lt, false≢true}
use Rattle.std.proofs.lemmas.Bool.Decides.{Decides-and, Decides-or, Decides-not}
use Rattle.bq_query_graph.specs.Marks.{Marked, Held, IsSet, Both, HeldBelow}
use Rattle.bq_query_graph.proofs.Grows.{marked_below}

pub listed_none : (ms : List Bool) → HeldBelow ms 0 []
listed_none ms = record { sound = λ y c. absurd (omega (arith, c.1)); full = λ y l. absurd (omega (arith, l)); ascending = λ k l. absurd (omega (arith, l)) }

pub listed_skip : (ms : List Bool) (i : ℕ) (q : List ℕ) → get_or ms i false ≡ false → HeldBelow ms i q → HeldBelow ms (i + 1) q
listed_skip ms i q e h =
    record {
      sound = λ y c. let s = h.sound y c in (s.0, omega (arith, s.1));
      full = λ y l m. elim (cases_eq y i) [ inl s ↦ absurd (false≢true (sym e ∙ ap (λ k. get_or ms k false) (sym s) ∙ m)) | inr n ↦ h.full y (omega (arith, n, l)) m ];
      ascending = h.ascending;
    }

-- from i to j none is marked
pub listed_over : (ms : List Bool) (i j : ℕ) (q : List ℕ) → i ≤ j → ((y : ℕ) → get_or (slice_range ms i j) y false ≡ false) → HeldBelow ms i q → HeldBelow ms j q
listed_over ms i j q far clear h =
    record {
      sound = λ y c. let s = h.sound y c in (s.0, omega (arith, s.1, far));
      full = λ y l m. elim (cases_lt y i) [
        | inl s ↦ h.full y s m
        | inr g ↦
            let back : i + (y - i) ≡ y = omega (arith, g) in
            let is = get_or-take (j - i) (drop i ms) (y - i) false (omega (arith, g, l)) ∙ get_or-drop i ms (y - i) false ∙ ap (λ k. get_or ms k false) back in
            absurd (false≢true (sym (clear (y - i)) ∙ is ∙ m))
      ];
      ascending = h.ascending;
    }

rising : (q : List ℕ) (i : ℕ) → ((y : ℕ) → Contains q y → y < i) → IsStrictlyIncreasing q → IsStrictlyIncreasing (q ++ i ∷ [])
rising q i below up k l =
    let long : k + 1 < length q + 1 = omega (arith, length_push q i, l) in
    let here = get_or_append_left q (i ∷ []) 0 k (omega (arith, long)) in
    elim (cases_lt (k + 1) (length q)) [
      | inl s ↦ omega (arith, here, get_or_append_left q (i ∷ []) 0 (k + 1) s, up k s)
      | inr g ↦ omega (arith, here, get_or_push q i 0 (k + 1) (omega (arith, g, long)), below (get_or q k 0) (Contains-get_or q k 0 (omega (arith, long))))
    ]

pub listed_more : (ms : List Bool) (i : ℕ) (q : List ℕ) → get_or ms i false ≡ true → HeldBelow ms i q → HeldBelow ms (i + 1) (q ++ i ∷ [])
listed_more ms i q e h =
    record {
      sound = λ y c. elim (Contains-push_cases q i y c) [ inl d ↦ let s = h.sound y d in (s.0, omega (arith, s.1)) | inr s ↦ (ap (λ k. get_or ms k false) (sym s) ∙ e, omega (arith, s)) ];
      full = λ y l m. elim (cases_eq y i) [ inl s ↦ subst (Contains (q ++ i ∷ [])) (sym s) (Contains-push q i) | inr n ↦ Contains-append_left q (i ∷ []) y (h.full y (omega (arith, n, l)) m) ];
      ascending = rising q i (λ y c. (h.sound y c).1) h.ascending;
    }

pub listed_all : (ms : List Bool) (i : ℕ) (q : List ℕ) → length ms ≤ i → HeldBelow ms i q → Held ms q
listed_all ms i q l h y = (λ m. h.full y (omega (arith, l, marked_below ms y m)) m, λ c. (h.sound y c).0)

-- whether one of the first i is marked, and one more
pub clear_more : (ms : List Bool) (i : ℕ) (some mark : Bool) → get_or ms i false ≡ mark → (some ≡ false → (y : ℕ) → y < i → get_or ms y false ≡ false) → (some || mark) ≡ false → (y : ℕ) → y < i + 1 → get_or ms y false ≡ false
clear_more ms i true mark e h none y l = absurd (false≢true (sym none))
clear_more ms i false mark e h none y l = elim (cases_eq y i) [ inl s ↦ ap (λ k. get_or ms k false) s ∙ e ∙ none | inr n ↦ h refl y (omega (arith, n, l)) ]

pub clear_all : (ms : List Bool) (i : ℕ) (some : Bool) → length ms ≤ i → (some ≡ false → (y : ℕ) → y < i → get_or ms y false ≡ false) → not some ≡ true → (y : ℕ) → get_or ms y false ≡ false
clear_all ms i true l h none y = absurd (false≢true none)
clear_all ms i false l h none y = elim (cases_lt y i) [ inl s ↦ h refl y s | inr g ↦ get_or_past ms y false (omega (arith, l, g)) ]

-- the sets that operators make, target by target
set_by : (f : Bool → Bool → Bool) → f false false ≡ false → (xs ys zs : List Bool) → length xs ≡ length ys → length zs ≡ length xs → ((k : ℕ) → k < length xs → get_or zs k false ≡ f (get_or xs k false) (get_or ys k false)) → (k : ℕ) → get_or zs k false ≡ f (get_or xs k false) (get_or ys k false)
set_by f e xs ys zs l m each k =
    elim (cases_lt k (length xs)) [
      | inl s ↦ each k s
      | inr g ↦ get_or_past zs k false (omega (arith, m, g)) ∙ sym e ∙ (λ i. f (sym (get_or_past xs k false g) i) (sym (get_or_past ys k false (omega (arith, l, g))) i))
    ]

pub set_both : (xs ys zs : List Bool) → length xs ≡ length ys → length zs ≡ length xs → ((k : ℕ) → k < length xs → get_or zs k false ≡ (get_or xs k false && get_or ys k false)) → IsSet (length xs) zs (Both xs ys)
set_both xs ys zs l m each =
    (m, λ y. subst (λ b. Decides b (Both xs ys y)) (sym (set_by (λ a b. a && b) refl xs ys zs l m each y)) (Decides-and (get_or xs y false) (get_or ys y false) (λ h. h, λ h. h) (λ h. h, λ h. h)))

pub set_either : (xs ys zs : List Bool) → length xs ≡ length ys → length zs ≡ length xs → ((k : ℕ) → k < length xs → get_or zs k false ≡ (get_or xs k false || get_or ys k false)) → IsSet (length xs) zs (λ y. Marked xs y ⊎ Marked ys y)
set_either xs ys zs l m each =
    (m, λ y. subst (λ b. Decides b (Marked xs y ⊎ Marked ys y)) (sym (set_by (λ a b. a || b) refl xs ys zs l m each y)) (Decides-or (get_or xs y false) (get_or ys y false) (λ h. h, λ h. h) (λ h. h, λ h. h)))

pub set_except : (xs ys zs : List Bool) → length xs ≡ length ys → length zs ≡ length xs → ((k : ℕ) → k < length xs → get_or zs k false ≡ (get_or xs k false && not (get_or ys k false))) → IsSet (length xs) zs (λ y. Marked xs y × (Marked ys y → ⊥))
set_except xs ys zs l m each =
    (m, λ y. subst (λ b. Decides b (Marked xs y × (Marked ys y → ⊥))) (sym (set_by (λ a b. a && not b) refl xs ys zs l m each y)) (Decides-and (get_or xs y false) (not (get_or ys y false)) (λ h. h, λ h. h) (Decides-not (get_or ys y false) (λ h. h, λ h. h))))
