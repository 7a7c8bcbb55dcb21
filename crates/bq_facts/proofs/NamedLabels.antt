-- The labels that a target names are those that it depends on, in order, each once; and sorting and dropping repeats makes them.
use Rattle.std.proofs.Common.{◌≡◌, ◌∙◌, ◌<◌, ◌+◌, ℕ, Bool, true, false, List, [], ◌∷◌, ◌++◌, length, take, get_or, refl, sym, ap, subst, inl, inr}
use Rattle.std.specs.Cmp.{IsTotalOrder}
use Rattle.std.specs.Cmp.Lexicographic.{bytes_decides, on_texts, on_texts_equal, pointwise, texts_ties}
use Rattle.std.specs.List.{All, AllByRecursion, Contains, IsDistinct, dedup}
use Rattle.std.specs.List.Retain.{IsFiltered, DiffersFromLast}
use Rattle.std.specs.List.Sorted.{IsPermutation, IsSorted}
use Rattle.std.specs.Ordering.{eq_by_cmp, on}
use Rattle.std.specs.Prelude.{nat_eq}
use Rattle.std.proofs.lemmas.Bool.{false≢true}
use Rattle.std.proofs.lemmas.List.{take_more}
use Rattle.std.proofs.lemmas.List.Elements.{All-contains}
use Rattle.std.proofs.lemmas.List.Filters.{dedup_is}
use Rattle.std.proofs.lemmas.List.Kept.{Any-dedup, Contains-from_dedup, IsStrictlySortedBy-dedup}
use Rattle.std.proofs.lemmas.List.Sorted.{Contains-permutation, IsPermutation-sym}
use Rattle.std.proofs.lemmas.Map.Keys.{IsDistinct-cons, IsDistinct-head, IsDistinct-tail}
use Rattle.bq_label.specs.Label.{LabelParts, IsLabel, full_form}
use Rattle.bq_label.specs.Order.{in_order}
use Rattle.bq_label.proofs.Orders.{at_head, in_tail, in_order_ascends, in_order_moves, same_ascending}
use Rattle.bq_label.proofs.Readings.{one_full_form}
use Rattle.bq_label_set.specs.Labels.{same_label, same_label-Decides, with_labels}
use Rattle.bq_label_set.proofs.Added.{each_label_once, none_in, the_labels_added}
use Rattle.bq_package_target.specs.declared.target.Target.{Target}
use Rattle.bq_package_target.specs.Target.{dependencies}
use Rattle.bq_facts.specs.Laws.{NamesAreDependencies, NamesAscend}
use Rattle.bq_facts.specs.Names.{form_cmp, named_labels}

form_total : IsTotalOrder form_cmp
form_total = on_texts full_form

-- each once, in the order in which the target names them
abbrev once : Target → List LabelParts
once t = with_labels [] (dependencies t)

in_once : (t : Target) (l : LabelParts) → Contains (once t) l → Contains (dependencies t) l
in_once t l c = elim ((the_labels_added [] (dependencies t) l).0 c) [ inl none ↦ absurd (none_in l none) | inr there ↦ there ]

pub names_are_dependencies : NamesAreDependencies
unfolding named_labels
names_are_dependencies t l =
    let moved : IsPermutation (once t) (in_order form_cmp (once t)) = in_order_moves form_cmp form_total (once t) in (
      λ c. in_once t l (Contains-permutation (in_order form_cmp (once t)) (once t) l (IsPermutation-sym (once t) (in_order form_cmp (once t)) moved) c),
      λ c. Contains-permutation (once t) (in_order form_cmp (once t)) l moved ((the_labels_added [] (dependencies t) l).1 (inr c)),
    )

-- ---- valid labels differ where their full forms do

-- labels are equal by this where their full forms are
abbrev same_forms : LabelParts → LabelParts → Bool
same_forms = on full_form (pointwise nat_eq)

one_label : (l m : LabelParts) → IsLabel l → IsLabel m → same_forms l m ≡ true → l ≡ m
one_label l m v w h = one_full_form l m v w ((bytes_decides (full_form l) (full_form m)).0 h)

ties : (l m : LabelParts) → same_forms l m ≡ eq_by_cmp form_cmp l m
ties l m = texts_ties (full_form l) (full_form m)

not_true : (b : Bool) → (b ≡ true → ⊥) → b ≡ false
not_true true f = absurd (f refl)
not_true false f = refl

apart : (l : LabelParts) (ms : List LabelParts) → IsLabel l → AllByRecursion IsLabel ms → AllByRecursion (λ m. same_label l m ≡ false) ms
    → AllByRecursion (λ m. eq_by_cmp form_cmp l m ≡ false) ms
apart l [] v vs d = tt
apart l (m ∷ ms) v vs d = (
  not_true (eq_by_cmp form_cmp l m) (λ h. false≢true (sym d.0 ∙ (same_label-Decides l m).1 (one_label l m v vs.0 (ties l m ∙ h)))),
  apart l ms v vs.1 d.1,
)

distinct_forms : (ls : List LabelParts) → AllByRecursion IsLabel ls → IsDistinct same_label ls → IsDistinct (eq_by_cmp form_cmp) ls
unfolding IsDistinct
distinct_forms [] vs d = tt
distinct_forms (l ∷ ls) vs d =
    IsDistinct-cons (eq_by_cmp form_cmp) l ls (apart l ls vs.0 vs.1 (IsDistinct-head same_label l ls d)) (distinct_forms ls vs.1 (IsDistinct-tail same_label l ls d))

by_recursion : {X : Type 0} (P : X → Type 0) (xs : List X) → ((z : X) → Contains xs z → P z) → AllByRecursion P xs
by_recursion P [] f = tt
by_recursion P (x ∷ xs) f = (f x (at_head x xs), by_recursion P xs (λ z c. f z (in_tail x xs z c)))

pub names_ascend : NamesAscend
unfolding named_labels
names_ascend t valid =
    let each : AllByRecursion IsLabel (once t) = by_recursion IsLabel (once t) (λ l c. All-contains IsLabel (dependencies t) l valid (in_once t l c)) in
    in_order_ascends form_cmp form_total (once t) (distinct_forms (once t) each (each_label_once (dependencies t)))

-- ---- what the code makes of them

pub next_taken : (ls : List LabelParts) (i : ℕ) (l : LabelParts) → i < length ls → l ≡ get_or ls i l → take (i + 1) ls ≡ take i ls ++ l ∷ []
next_taken ls i l h e = take_more ls i l h ∙ ap (λ (z : LabelParts). take i ls ++ z ∷ []) (sym e)

module _ (t : Target) (sorted : List LabelParts) (valid : All IsLabel (dependencies t)) (moved : IsPermutation (dependencies t) sorted) where
  in_sorted : (l : LabelParts) → Contains sorted l → Contains (dependencies t) l
  in_sorted l c = Contains-permutation sorted (dependencies t) l (IsPermutation-sym (dependencies t) sorted moved) c

  is_valid : (l : LabelParts) → Contains sorted l → IsLabel l
  is_valid l c = All-contains IsLabel (dependencies t) l valid (in_sorted l c)

  -- no label is lost
  kept : (l : LabelParts) → Contains sorted l → Contains (dedup same_forms sorted) l
  kept l c =
      let a = Any-dedup (on_texts_equal full_form) sorted l c in
      let there : Contains (dedup same_forms sorted) a.1 = (a.0, a.2, a.3) in
      let same : l ≡ a.1 = one_label l a.1 (is_valid l c) (is_valid a.1 (Contains-from_dedup same_forms sorted a.1 there)) a.4 in
      subst (λ (z : LabelParts). Contains (dedup same_forms sorted) z) (sym same) there

  pub named_labels_of : (ds : List LabelParts) → IsSorted form_cmp sorted → IsFiltered (DiffersFromLast same_forms) [] sorted ds → ds ≡ named_labels t
  named_labels_of ds order left =
      dedup_is same_forms sorted ds left
      ∙ same_ascending form_cmp form_total (dedup same_forms sorted) (named_labels t) (IsStrictlySortedBy-dedup form_total ties sorted order) (names_ascend t valid)
      (λ l c. (names_are_dependencies t l).1 (in_sorted l (Contains-from_dedup same_forms sorted l c)))
      (λ l c. kept l (Contains-permutation (dependencies t) sorted l moved ((names_are_dependencies t l).0 c)))
