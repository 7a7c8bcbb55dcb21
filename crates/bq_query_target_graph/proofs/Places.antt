-- A label's number is the place of the target that has it.
use Rattle.std.proofs.Common.{◌≡◌, ◌<◌, ◌+◌, ◌∙◌, ℕ, suc, Bool, true, false, cond, nat_lt, List, [], ◌∷◌, Option, Some, None, length, position, slice_get, get_or, refl, sym, ap, subst, arith}
use Rattle.std.specs.Bool.{OnTrue}
use Rattle.std.specs.List.{find, position_or_len}
use Rattle.std.specs.List.Sorted.{IsStrictlySortedBy, IsNonDecreasingBy, IsPartitionPoint}
use Rattle.std.specs.Ordering.{nat_cmp, is_eq, ordering_index}
use Rattle.std.specs.Cmp.Lexicographic.{slice_cmp, nat_list_cmp_total}
use Rattle.std.specs.declared.cmp.Ordering.{Ordering}
use Rattle.std.specs.declared.cmp.Ordering.TheVariants.{Less, Equal, Greater}
use Rattle.std.proofs.lemmas.Bool.Decides.{nat_tests}
use Rattle.std.proofs.lemmas.Cmp.{tied_itself}
use Rattle.std.proofs.lemmas.Map.Lookups.{exact_bytes}
use Rattle.std.proofs.lemmas.Option.{slice_get-get_or}
use Rattle.bq_label.specs.Label.{LabelParts, IsLabel, full_form}
use Rattle.bq_label.proofs.Readings.{one_full_form}
use Rattle.bq_label.proofs.Searches.{find_nowhere}
use Rattle.bq_package_target.specs.declared.target.Target.{Target}
use Rattle.bq_label_set.specs.Labels.{same_label, same_label-Decides}
use Rattle.bq_query_target_graph.specs.Order.{target_cmp, target_labels}
use Rattle.bq_query_target_graph.proofs.Ascends.{distinct_from_order, not_equal}
use Rattle.bq_query_target_graph.proofs.Depends.{the_number}

on_true : (b : Bool) (P : Type 0) → (b ≡ true → P) → OnTrue b P
on_true true P f = f refl
on_true false P f = tt

-- the target at a place has the label
at_place : (ts : List Target) → IsStrictlySortedBy target_cmp ts → (i : ℕ) (t : Target) (l : LabelParts) → slice_get ts i ≡ Some t → same_label l t.label ≡ true → position (same_label l) (target_labels ts) ≡ Some i
at_place ts s i t l g e =
    subst (λ (z : LabelParts). position (same_label z) (target_labels ts) ≡ Some i) (sym ((same_label-Decides l t.label).0 e)) (the_number ts i t (distinct_from_order ts s) g)

-- a test says so
pub at_place_by : (ts : List Target) → IsStrictlySortedBy target_cmp ts → (i : ℕ) (t : Target) (l : LabelParts) (b : Bool) → slice_get ts i ≡ Some t → b ≡ same_label l t.label → OnTrue b (position (same_label l) (target_labels ts) ≡ Some i)
at_place_by ts s i t l b g e = on_true b (position (same_label l) (target_labels ts) ≡ Some i) (λ h. at_place ts s i t l g (sym e ∙ h))

-- how the label of a target compares with a label
abbrev against : LabelParts → Target → Ordering
against l t = slice_cmp nat_cmp (full_form t.label) (full_form l)

-- the search finds it
pub found_place : (ts : List Target) → IsStrictlySortedBy target_cmp ts → (i : ℕ) (d : Target) (l : LabelParts) → i < length ts → IsLabel (get_or ts i d).label → IsLabel l → slice_cmp nat_cmp (full_form (get_or ts i d).label) (full_form l) ≡ Equal
    → position (same_label l) (target_labels ts) ≡ Some i
found_place ts s i d l h v w e =
    let t : Target = get_or ts i d in
    let one : t.label ≡ l = one_full_form t.label l v w (exact_bytes (full_form t.label) (full_form l) e) in
    subst (λ (z : LabelParts). position (same_label z) (target_labels ts) ≡ Some i) one (the_number ts i t (distinct_from_order ts s) (slice_get-get_or ts i d h))

-- ---- the search finds nothing

none_by : (b : Bool) (t : Target) (rest : Option Target) → cond b (Some t) rest ≡ None → (b ≡ false) × (rest ≡ None)
none_by true t rest h = absurd cc
none_by false t rest h = (refl, h)

other_label : (l : LabelParts) (t : Target) → is_eq (against l t) ≡ false → same_label l t.label ≡ false
other_label l t h = not_equal (same_label l t.label) (λ e.
    let one : l ≡ t.label = (same_label-Decides l t.label).0 e in
    let tied : slice_cmp nat_cmp (full_form t.label) (full_form l) ≡ Equal =
    ap (λ (z : LabelParts). slice_cmp nat_cmp (full_form t.label) (full_form z)) one ∙ tied_itself nat_list_cmp_total (full_form t.label) in
    let no : true ≡ false = sym (ap is_eq tied) ∙ h in
    absurd (cc))

past_all : (l : LabelParts) (ts : List Target) → find (λ t. is_eq (against l t)) ts ≡ None → position_or_len (same_label l) (target_labels ts) ≡ length (target_labels ts)
past_all l [] h = refl
past_all l (t ∷ ts) h =
    let r = none_by (is_eq (against l t)) t (find (λ t. is_eq (against l t)) ts) h in
    let other : same_label l t.label ≡ false = other_label l t r.0 in
    let rest : position_or_len (same_label l) (target_labels ts) ≡ length (target_labels ts) = past_all l ts r.1 in
    let one : 1 + position_or_len (same_label l) (target_labels ts) ≡ suc (length (target_labels ts)) = omega arith in
    rw other one

not_below_itself : (n : ℕ) → nat_lt n n ≡ false
not_below_itself n = grind (arith, nat_tests)

no_number : (n m : ℕ) → n ≡ m → cond (nat_lt n m) (Some n) None ≡ None
no_number n m e = let h : nat_lt n m ≡ false = ap (λ (z : ℕ). nat_lt z m) e ∙ not_below_itself m in rw h refl

pub no_place : (ts : List Target) → IsStrictlySortedBy target_cmp ts → (l : LabelParts) (i : ℕ)
    → (IsNonDecreasingBy (λ (t : Target). ordering_index (slice_cmp nat_cmp (full_form t.label) (full_form l))) ts → IsPartitionPoint (λ (t : Target). slice_cmp nat_cmp (full_form t.label) (full_form l) ≡ Less) (λ (t : Target). slice_cmp nat_cmp (full_form t.label) (full_form l) ≡ Greater) ts i)
    → position (same_label l) (target_labels ts) ≡ None
no_place ts s l i p =
    no_number (position_or_len (same_label l) (target_labels ts)) (length (target_labels ts))
    (past_all l ts (find_nowhere (λ (t : Target). full_form t.label) nat_list_cmp_total (λ t. is_eq (against l t)) (full_form l) (λ t. refl) ts s i p))
