-- Targets that are given their places, and then sorted by their names: they come by name, and their places tell how they were declared.
use Rattle.std.proofs.Common.{◌≡◌, ◌<◌, ◌+◌, ◌∙◌, ℕ, suc, false, List, [], ◌∷◌, ◌++◌, length, reverse, refl, sym, ap, subst, arith, append_assoc}
use Rattle.std.specs.Str.{bytes_eq}
use Rattle.std.specs.List.{AllByRecursion, IsDistinct}
use Rattle.std.specs.List.Sorted.{IsPermutation, IsSorted, IsStrictlySortedBy}
use Rattle.std.specs.Cmp.{IsTotalOrder}
use Rattle.std.specs.Cmp.Lexicographic.{slice_cmp, on_texts}
use Rattle.std.specs.Ordering.{nat_cmp, on, eq_by_cmp}
use Rattle.std.specs.declared.cmp.Ordering.{Ordering}
use Rattle.std.specs.declared.cmp.Ordering.TheVariants.{Less}
use Rattle.std.proofs.lemmas.Bool.Decides.{nat_tests}
use Rattle.std.proofs.lemmas.Cmp.{on_total, nat_cmp_total}
use Rattle.std.proofs.lemmas.List.{length-map, reverse-append}
use Rattle.std.proofs.lemmas.List.Sorted.{IsPermutation-sym, IsPermutation-map, length_permutation}
use Rattle.std.proofs.lemmas.Map.Keys.{IsDistinct-head, IsDistinct-tail, IsDistinct-cons}
use Rattle.std.proofs.lemmas.Map.Text.{is_eq-slice_cmp}
use Rattle.bq_label.proofs.Orders.{in_order_is, in_order_moves, strict_from_sort}
use Rattle.bq_package_target.specs.declared.target.Target.{Target}
use Rattle.bq_package_target.specs.declared.by_name.PlacedTarget.{PlacedTarget}
use Rattle.bq_package_target.specs.Target.{names_of}
use Rattle.bq_package_target.specs.ByName.{name_cmp, by_name, place_cmp, targets_of, as_declared, ComeByName}

-- targets with their places, of which the first is i
abbrev pub placed_from : ℕ → List Target → List PlacedTarget
placed_from i [] = []
placed_from i (t ∷ ts) = record { target = t; place = i } ∷ placed_from (suc i) ts

targets_placed : (i : ℕ) (ts : List Target) → targets_of (placed_from i ts) ≡ ts
targets_placed i [] = refl
targets_placed i (t ∷ ts) = ap (λ (z : List Target). t ∷ z) (targets_placed (suc i) ts)

-- ---- the last target is taken off

last_placed : (i : ℕ) (ts : List Target) (t : Target) → placed_from i (ts ++ t ∷ []) ≡ placed_from i ts ++ record { target = t; place = i + length ts } ∷ []
last_placed i [] t = ap (λ (z : ℕ). record { target = t; place = z } ∷ []) (omega arith)
last_placed i (u ∷ us) t =
    let far : suc i + length us ≡ i + suc (length us) = omega arith in
    ap (λ (z : List PlacedTarget). record { target = u; place = i } ∷ z) (last_placed (suc i) us t ∙ ap (λ (z : ℕ). placed_from (suc i) us ++ record { target = t; place = z } ∷ []) far)

pub one_more : (all placed : List PlacedTarget) (old rest : List Target) (t : Target) (place : ℕ) → old ≡ rest ++ t ∷ [] → place ≡ length rest → placed ++ reverse (placed_from 0 old) ≡ all
    → (placed ++ record { target = t; place = place } ∷ []) ++ reverse (placed_from 0 rest) ≡ all
one_more all placed old rest t place e p h =
    let one : PlacedTarget = record { target = t; place = place } in
    let from_none : 0 + length rest ≡ length rest = omega arith in
    let ends : placed_from 0 old ≡ placed_from 0 rest ++ one ∷ [] = ap (placed_from 0) e ∙ (last_placed 0 rest t ∙ ap (λ (z : ℕ). placed_from 0 rest ++ record { target = t; place = z } ∷ []) (from_none ∙ sym p)) in
    let first : reverse (placed_from 0 old) ≡ one ∷ reverse (placed_from 0 rest) = ap reverse ends ∙ reverse-append (placed_from 0 rest) (one ∷ []) in
    append_assoc placed (one ∷ []) (reverse (placed_from 0 rest)) ∙ (ap (λ (z : List PlacedTarget). placed ++ z) (sym first) ∙ h)

-- ---- places ascend

by_places : IsTotalOrder place_cmp
by_places = on_total (λ (p : PlacedTarget). p.place) nat_cmp_total

is_below : (n m : ℕ) → n < m → nat_cmp n m ≡ Less
is_below n m h = grind (arith, nat_tests)

above : (p : PlacedTarget) (i : ℕ) (ts : List Target) → p.place < i → AllByRecursion (λ q. place_cmp p q ≡ Less) (placed_from i ts)
above p i [] h = tt
above p i (t ∷ ts) h = (is_below p.place i h, above p (suc i) ts (omega arith))

places_ascend : (i : ℕ) (ts : List Target) → IsStrictlySortedBy place_cmp (placed_from i ts)
unfolding IsStrictlySortedBy
places_ascend i [] = tt
places_ascend i (t ∷ ts) = (above (record { target = t; place = i }) (suc i) ts (omega arith), places_ascend (suc i) ts)

-- ---- and so do names, once they are sorted

-- targets that have places, by their names
abbrev pub placed_cmp : PlacedTarget → PlacedTarget → Ordering
placed_cmp = on (λ p. p.target.label.name) (slice_cmp nat_cmp)

placed_names : IsTotalOrder placed_cmp
placed_names = on_texts (λ (p : PlacedTarget). p.target.label.name)

by_names : IsTotalOrder name_cmp
by_names = on_texts (λ (t : Target). t.label.name)

others : (p : PlacedTarget) (i : ℕ) (ts : List Target) → AllByRecursion (λ n. bytes_eq p.target.label.name n ≡ false) (names_of ts) → AllByRecursion (λ q. eq_by_cmp placed_cmp p q ≡ false) (placed_from i ts)
others p i [] a = tt
others p i (t ∷ ts) a = (is_eq-slice_cmp p.target.label.name t.label.name ∙ a.0, others p (suc i) ts a.1)

distinct : (i : ℕ) (ts : List Target) → IsDistinct bytes_eq (names_of ts) → IsDistinct (eq_by_cmp placed_cmp) (placed_from i ts)
unfolding IsDistinct
distinct i [] d = tt
distinct i (t ∷ ts) d =
    let one : PlacedTarget = record { target = t; place = i } in
    IsDistinct-cons (eq_by_cmp placed_cmp) one (placed_from (suc i) ts) (others one (suc i) ts (IsDistinct-head bytes_eq t.label.name (names_of ts) d)) (distinct (suc i) ts (IsDistinct-tail bytes_eq t.label.name (names_of ts) d))

names_above : (p : PlacedTarget) (ps : List PlacedTarget) → AllByRecursion (λ q. placed_cmp p q ≡ Less) ps → AllByRecursion (λ t. name_cmp p.target t ≡ Less) (targets_of ps)
names_above p [] a = tt
names_above p (q ∷ qs) a = (a.0, names_above p qs a.1)

names_ascend : (ps : List PlacedTarget) → IsStrictlySortedBy placed_cmp ps → IsStrictlySortedBy name_cmp (targets_of ps)
unfolding IsStrictlySortedBy
names_ascend [] s = tt
names_ascend (p ∷ ps) s = (names_above p ps s.0, names_ascend ps s.1)

module _ (ts : List Target) (d : IsDistinct bytes_eq (names_of ts)) (ps : List PlacedTarget) (m : IsPermutation (placed_from 0 ts) ps) (s : IsSorted placed_cmp ps) where
  -- the places tell how they were declared
  pub declared_is : as_declared ps ≡ ts
  unfolding as_declared
  declared_is = ap targets_of (in_order_is place_cmp by_places ps (placed_from 0 ts) (IsPermutation-sym (placed_from 0 ts) ps m) (places_ascend 0 ts)) ∙ targets_placed 0 ts

  moved : IsPermutation ts (targets_of ps)
  moved = subst (λ (z : List Target). IsPermutation z (targets_of ps)) (targets_placed 0 ts) (IsPermutation-map (λ (p : PlacedTarget). p.target) (placed_from 0 ts) ps m)

  by_name_is : by_name ts ≡ targets_of ps
  unfolding by_name
  by_name_is = in_order_is name_cmp by_names ts (targets_of ps) moved (names_ascend ps (strict_from_sort placed_cmp placed_names (placed_from 0 ts) ps m s (distinct 0 ts d)))

  pub come_by_name : ComeByName ps
  come_by_name = sym (ap by_name declared_is ∙ by_name_is)

-- ---- as many as were declared

pub as_many : (ps : List PlacedTarget) → length ps ≡ length (as_declared ps)
unfolding as_declared
as_many ps =
    let sorted = in_order_moves place_cmp by_places ps in
    sym (length-map _ (λ (p : PlacedTarget). p.target) ∙ length_permutation ps _ sorted)
