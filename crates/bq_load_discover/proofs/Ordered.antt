-- Modules of which no two have one label are in one order, in which each is below the next.
use Rattle.std.proofs.Common.{◌≡◌, ◌∙◌, Bool, true, false, List, [], ◌∷◌, map, refl, sym, ap}
use Rattle.std.specs.List.{AllByRecursion, IsDistinct}
use Rattle.std.specs.List.Sorted.{IsPermutation, IsSorted, IsStrictlySortedBy}
use Rattle.std.specs.Ordering.{nat_cmp, is_eq, eq_by_cmp}
use Rattle.std.specs.Cmp.Lexicographic.{slice_cmp}
use Rattle.std.specs.declared.cmp.Ordering.{Ordering}
use Rattle.std.specs.declared.cmp.Ordering.TheVariants.{Less, Equal, Greater}
use Rattle.std.proofs.lemmas.Cmp.{tied_itself}
use Rattle.std.proofs.lemmas.List.Elements.{recursion_from_All}
use Rattle.std.proofs.lemmas.List.Sorted.{IsPermutation-sym, IsPermutation-map, All-permutation, Contains-permutation}
use Rattle.std.proofs.lemmas.Map.Keys.{IsDistinct-head, IsDistinct-tail, IsDistinct-cons, sorted_head, sorted_tail}
use Rattle.std.proofs.lemmas.Map.Lookups.{exact_bytes}
use Rattle.bq_label.specs.Label.{LabelParts, IsLabel, full_form}
use Rattle.bq_label.proofs.Orders.{strict_from_sort}
use Rattle.bq_label.proofs.Readings.{one_full_form}
use Rattle.bq_label_set.specs.Labels.{same_label, same_label-Decides}
use Rattle.bq_load_front.specs.Inputs.{InputParts}
use Rattle.bq_load_front.specs.Reading.{parsed_of}
use Rattle.bq_load_discover.specs.declared.modules.Module.{Module}
use Rattle.bq_load_discover.specs.Module.{module_of, IsRead, labels_of, AreValid, label_cmp, label_cmp_total, module_cmp, module_cmp_total}
use Rattle.bq_load_discover.specs.Modules.{AreModules}
use Rattle.bq_base.specs.declared.limits.Limits.{Limits}
use Rattle.bq_load_discover.specs.Exploring.{AreFound}

not_equal : (b : Bool) → (b ≡ true → ⊥) → b ≡ false
not_equal true f = absurd (f refl)
not_equal false f = refl

equal_of : (o : Ordering) → is_eq o ≡ true → o ≡ Equal
equal_of Equal e = refl
equal_of Less e = cc
equal_of Greater e = cc

same_form : (a b : LabelParts) → IsLabel a → IsLabel b → is_eq (slice_cmp nat_cmp (full_form a) (full_form b)) ≡ true → same_label a b ≡ true
same_form a b v w e = (same_label-Decides a b).1 (one_full_form a b v w (exact_bytes (full_form a) (full_form b) (equal_of (slice_cmp nat_cmp (full_form a) (full_form b)) e)))

other_forms : (x : Module) (ms : List Module) → IsLabel x.label → AllByRecursion (λ m. IsLabel m.label) ms → AllByRecursion (λ l. same_label x.label l ≡ false) (labels_of ms) → AllByRecursion (λ m. eq_by_cmp module_cmp x m ≡ false) ms
other_forms x [] v w a = tt
other_forms x (m ∷ ms) v w a =
    (not_equal (eq_by_cmp module_cmp x m) (λ e. let no : false ≡ true = sym a.0 ∙ same_form x.label m.label v w.0 e in absurd (cc)), other_forms x ms v w.1 a.1)

distinct_forms : (ms : List Module) → AllByRecursion (λ m. IsLabel m.label) ms → IsDistinct same_label (labels_of ms) → IsDistinct (eq_by_cmp module_cmp) ms
unfolding IsDistinct
distinct_forms [] v d = tt
distinct_forms (m ∷ ms) v d =
    IsDistinct-cons (eq_by_cmp module_cmp) m ms (other_forms m ms v.0 v.1 (IsDistinct-head same_label m.label (labels_of ms) d)) (distinct_forms ms v.1 (IsDistinct-tail same_label m.label (labels_of ms) d))

-- ---- the labels

labels_below : (x : Module) (ms : List Module) → AllByRecursion (λ m. module_cmp x m ≡ Less) ms → AllByRecursion (λ l. label_cmp x.label l ≡ Less) (labels_of ms)
labels_below x [] a = tt
labels_below x (m ∷ ms) a = (a.0, labels_below x ms a.1)

labels_ascend : (ms : List Module) → IsStrictlySortedBy module_cmp ms → IsStrictlySortedBy label_cmp (labels_of ms)
unfolding IsStrictlySortedBy
labels_ascend [] s = tt
labels_ascend (m ∷ ms) s = (labels_below m ms (sorted_head module_cmp m ms s), labels_ascend ms (sorted_tail module_cmp m ms s))

above : (x : LabelParts) (ls : List LabelParts) → AllByRecursion (λ l. label_cmp x l ≡ Less) ls → AllByRecursion (λ l. same_label x l ≡ false) ls
above x [] a = tt
above x (l ∷ ls) a = (
  not_equal (same_label x l) (λ e.
      let one : x ≡ l = (same_label-Decides x l).0 e in
      let tied : label_cmp x l ≡ Equal = ap (λ (z : LabelParts). label_cmp z l) one ∙ tied_itself label_cmp_total l in
      let no : Less ≡ Equal = sym a.0 ∙ tied in
      absurd (cc)),
  above x ls a.1,
)

-- labels in order are none of them twice
pub differ : (ls : List LabelParts) → IsStrictlySortedBy label_cmp ls → IsDistinct same_label ls
unfolding IsDistinct
differ [] s = tt
differ (l ∷ ls) s = IsDistinct-cons same_label l ls (above l ls (sorted_head label_cmp l ls s)) (differ ls (sorted_tail label_cmp l ls s))

all_read : (inputs : InputParts) (ms : List Module) → AllByRecursion (IsRead inputs) ms → ms ≡ map (module_of inputs) (labels_of ms)
all_read inputs [] a = refl
all_read inputs (m ∷ ms) a = ap (λ (z : Module). z ∷ ms) a.0 ∙ ap (λ (z : List Module). module_of inputs m.label ∷ z) (all_read inputs ms a.1)

-- ---- what a sort makes of the modules that were found

pub modules_ascend : (found : List Module) → IsDistinct same_label (labels_of found) → (ms : List Module) → IsPermutation found ms → IsSorted module_cmp ms → AreValid ms → IsStrictlySortedBy label_cmp (labels_of ms)
modules_ascend found d ms p s v =
    let valid : AreValid found = All-permutation (λ (m : Module). IsLabel m.label) ms found (IsPermutation-sym found ms p) v in
    labels_ascend ms (strict_from_sort module_cmp module_cmp_total found ms p s (distinct_forms found (recursion_from_All (λ (m : Module). IsLabel m.label) found valid) d))

module _ (limits : Limits) (inputs : InputParts) (found : List Module) (f : AreFound limits inputs found) (ms : List Module) (p : IsPermutation found ms) (s : IsSorted module_cmp ms) (v : AreValid ms) where
  moved : IsPermutation (labels_of found) (labels_of ms)
  moved = IsPermutation-map (λ (m : Module). m.label) found ms p

  pub are_modules : AreModules inputs.packages (parsed_of inputs) (labels_of ms)
  are_modules = record {
    ascending = modules_ascend found f.distinct ms p s v;
    all = λ l i. Contains-permutation (labels_of found) (labels_of ms) l moved (f.all l i);
    only = λ l c. f.only l (Contains-permutation (labels_of ms) (labels_of found) l (IsPermutation-sym (labels_of found) (labels_of ms) moved) c);
  }

  pub still_read : ms ≡ map (module_of inputs) (labels_of ms)
  still_read = all_read inputs ms (recursion_from_All (IsRead inputs) ms (All-permutation (IsRead inputs) found ms p f.read))
