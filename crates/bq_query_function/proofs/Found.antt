-- Targets and packages that a binary search finds, or doesn't.
use Rattle.std.proofs.Common.{◌≡◌, ◌≢◌, ◌∙◌, ◌<◌, ◌+◌, ℕ, zero, suc, Bool, true, false, cond, List, [], ◌∷◌, length, drop, get_or, map, slice_set, Option, Some, None, refl, sym, ap, subst, arith, inl, inr}
use Rattle.std.specs.Prelude.{◌&&◌, ◌||◌, bytes_eq}
use Rattle.std.specs.Option.{is_some, option_or}
use Rattle.std.specs.List.{find}
use Rattle.std.specs.List.Sorted.{IsStrictlySortedBy, IsNonDecreasingBy, IsPartitionPoint}
use Rattle.std.proofs.lemmas.Bool.{cases_Bool, cases_lt, cases_eq}
use Rattle.std.proofs.lemmas.List.{drop_more, get_or-map, get_or_past, get_or-set_same, get_or-set_other, length-set}
use Rattle.std.proofs.lemmas.Map.Text.{is_eq-slice_cmp}
use Rattle.std.proofs.lemmas.Slice.Eq.{bytes_eq-Decides}
use Rattle.std.proofs.lemmas.Cmp.{tied_itself}
use Rattle.std.specs.Ordering.{nat_cmp, ordering_then, is_eq, ordering_index}
use Rattle.std.specs.Cmp.Lexicographic.{slice_cmp, nat_list_cmp_total}
use Rattle.std.specs.declared.cmp.Ordering.{Ordering}
use Rattle.std.specs.declared.cmp.Ordering.TheVariants.{Less, Equal, Greater}
use Rattle.bq_label.specs.Label.{PackageParts}
use Rattle.bq_label.specs.Packages.{id_cmp}
use Rattle.bq_label.proofs.BuildFiles.{by_id}
use Rattle.bq_label.proofs.Searches.{find_here, find_nowhere}
use Rattle.bq_package_target.specs.declared.target.Target.{Target}
use Rattle.bq_query_lex.specs.declared.pattern.TargetPattern.{TargetPattern}
use Rattle.bq_query_function.specs.Order.{text_of, is_text, AreInOrder}
use Rattle.bq_query_function.specs.Words.{Adds, is_package}
use Rattle.bq_query_function.specs.Missing.{has_package, missing, first_missing}
use Rattle.bq_query_function.proofs.Ranks.{no_one, text_at, text_is, rises}
use Rattle.bq_query_function.proofs.Tests.{passes}

-- ---- targets

pub nowhere : (targets : List Target) (text : List ℕ) → AreInOrder targets → (i : ℕ)
    → (IsNonDecreasingBy (λ (t : Target). ordering_index (slice_cmp nat_cmp (text_of t) text)) targets → IsPartitionPoint (λ (t : Target). slice_cmp nat_cmp (text_of t) text ≡ Less) (λ (t : Target). slice_cmp nat_cmp (text_of t) text ≡ Greater) targets i)
    → find (is_text text) targets ≡ None
nowhere targets text order i p = find_nowhere text_of nat_list_cmp_total (is_text text) text (λ t. sym (is_eq-slice_cmp (text_of t) text)) targets order i p

pub somewhere : (targets : List Target) (text : List ℕ) → AreInOrder targets → (i : ℕ) → i < length targets → slice_cmp nat_cmp (text_of (get_or targets i no_one)) text ≡ Equal
    → true ≡ is_some (find (is_text text) targets)
somewhere targets text order i h e = sym (ap is_some (find_here text_of nat_list_cmp_total (is_text text) text (λ t. sym (is_eq-slice_cmp (text_of t) text)) targets order i no_one h e))

same_from_equal : (a b : List ℕ) → slice_cmp nat_cmp a b ≡ Equal → a ≡ b
same_from_equal a b h = (bytes_eq-Decides a b).0 (sym (is_eq-slice_cmp a b) ∙ ap is_eq h)

-- the target at the place has the text as its label
pub here : (targets : List Target) (text : List ℕ) (i : ℕ) → i < length targets → slice_cmp nat_cmp (text_of (get_or targets i no_one)) text ≡ Equal → text_at targets i ≡ text
here targets text i h e = text_is targets i h ∙ same_from_equal (text_of (get_or targets i no_one)) text e

found_none_by : (b : Bool) (t : Target) (rest : Option Target) → cond b (Some t) rest ≡ None → (b ≡ false) × (rest ≡ None)
found_none_by true t rest h = absurd cc
found_none_by false t rest h = (refl, h)

pub none_passes : (test : Target → Bool) (targets : List Target) → find test targets ≡ None → (y : ℕ) → passes test targets y ≡ false
none_passes test [] h y = refl
none_passes test (t ∷ ts) h zero = (found_none_by (test t) t (find test ts) h).0
none_passes test (t ∷ ts) h (suc y) = none_passes test ts (found_none_by (test t) t (find test ts) h).1 y

or_false : (a : Bool) → a ≡ (a || false)
or_false true = refl
or_false false = refl

or_true : (a : Bool) → true ≡ (a || true)
or_true true = refl
or_true false = refl

-- no target has the label
pub adds_nowhere : (targets : List Target) (text : List ℕ) (before : List Bool) → find (is_text text) targets ≡ None → Adds (is_text text) targets before before
adds_nowhere targets text before none = (refl, λ y. or_false (get_or before y false) ∙ ap (λ b. get_or before y false || b) (sym (none_passes (is_text text) targets none y)))

text_false : (xs ys : List ℕ) → (xs ≡ ys → ⊥) → bytes_eq xs ys ≡ false
text_false xs ys n = elim (cases_Bool (bytes_eq xs ys)) [ inl t ↦ absurd (n ((bytes_eq-Decides xs ys).0 t)) | inr f ↦ f ]

less_not_same : (a b : List ℕ) → slice_cmp nat_cmp a b ≡ Less → a ≡ b → ⊥
less_not_same a b h e =
    let tied : slice_cmp nat_cmp b b ≡ Equal = tied_itself nat_list_cmp_total b in
    let less : slice_cmp nat_cmp b b ≡ Less = subst (λ (x : List ℕ). slice_cmp nat_cmp x b ≡ Less) e h in
    absurd (cc (tied, less))

length_tests : (f : Target → Bool) (ts : List Target) → length (map f ts) ≡ length ts
length_tests f [] = refl
length_tests f (t ∷ ts) = ap suc (length_tests f ts)

module _ (targets : List Target) (text : List ℕ) (order : AreInOrder targets) (i : ℕ) (inside : i < length targets) (is : text_at targets i ≡ text) where
  other_label : (y : ℕ) → y < length targets → y ≢ i → text_at targets y ≡ text → ⊥
  other_label y h n e = elim (cases_lt y i) [
    | inl early ↦ less_not_same (text_at targets y) (text_at targets i) (rises targets order y i early inside) (e ∙ sym is)
    | inr late ↦ less_not_same (text_at targets i) (text_at targets y) (rises targets order i y (let m : i ≢ y = λ q. n (sym q) in omega arith) h) (is ∙ sym e)
  ]

  passes_here : passes (is_text text) targets i ≡ true
  passes_here = get_or-map (is_text text) targets i no_one false inside ∙ (bytes_eq-Decides (text_of (get_or targets i no_one)) text).1 (sym (text_is targets i inside) ∙ is)

  passes_other : (y : ℕ) → y ≢ i → passes (is_text text) targets y ≡ false
  passes_other y n = elim (cases_lt y (length targets)) [
    | inl h ↦ get_or-map (is_text text) targets y no_one false h ∙ text_false (text_of (get_or targets y no_one)) text (λ e. other_label y h n (text_is targets y h ∙ e))
    | inr past ↦ get_or_past (map (is_text text) targets) y false (omega (arith, length_tests (is_text text) targets))
  ]

  -- the one target that has the label
  pub adds_here : (before : List Bool) → length before ≡ length targets → Adds (is_text text) targets before (slice_set before i true)
  adds_here before long = (
    length-set before i true,
    λ y. elim (cases_eq y i) [
      | inl same ↦ subst (λ (k : ℕ). get_or (slice_set before i true) k false ≡ (get_or before k false || passes (is_text text) targets k)) (sym same)
          (get_or-set_same before i true false (omega arith) ∙ (or_true (get_or before i false) ∙ ap (λ b. get_or before i false || b) (sym passes_here)))
      | inr other ↦ get_or-set_other before i y true false other ∙ (or_false (get_or before y false) ∙ ap (λ b. get_or before y false || b) (sym (passes_other y other)))
    ],
  )

-- ---- packages

then_equal : (r s : Ordering) → is_eq (ordering_then r s) ≡ (is_eq r && is_eq s)
then_equal Less s = refl
then_equal Equal s = refl
then_equal Greater s = refl

is_package_by : (p q : PackageParts) → is_package p q ≡ is_eq (id_cmp q p)
is_package_by p q =
    sym (then_equal (slice_cmp nat_cmp q.repo p.repo) (slice_cmp nat_cmp q.package p.package) ∙ rw (is_eq-slice_cmp q.repo p.repo, is_eq-slice_cmp q.package p.package) refl)

pub package_found : (packages : List PackageParts) (p : PackageParts) → IsStrictlySortedBy id_cmp packages → (i : ℕ) (d : PackageParts) → i < length packages → id_cmp (get_or packages i d) p ≡ Equal
    → true ≡ has_package packages p
package_found packages p order i d h e = sym (ap is_some (find_here (λ (q : PackageParts). q) by_id (is_package p) p (is_package_by p) packages order i d h e))

pub package_nowhere : (packages : List PackageParts) (p : PackageParts) → IsStrictlySortedBy id_cmp packages → (i : ℕ)
    → (IsNonDecreasingBy (λ (q : PackageParts). ordering_index (id_cmp q p)) packages → IsPartitionPoint (λ (q : PackageParts). id_cmp q p ≡ Less) (λ (q : PackageParts). id_cmp q p ≡ Greater) packages i)
    → false ≡ has_package packages p
package_nowhere packages p order i partition = sym (ap is_some (find_nowhere (λ (q : PackageParts). q) by_id (is_package p) p (is_package_by p) packages order i partition))

-- ---- patterns

-- what is missing of the patterns from a place on
pub missing_from : (packages : List PackageParts) (targets : List Target) (ps : List TargetPattern) (i : ℕ) (p : TargetPattern) → i < length ps → p ≡ get_or ps i p
    → first_missing packages targets (drop i ps) ≡ option_or (missing packages targets p) (first_missing packages targets (drop (i + 1) ps))
missing_from packages targets ps i p h e = ap (first_missing packages targets) (drop_more ps i p h ∙ ap (λ (q : TargetPattern). q ∷ drop (i + 1) ps) (sym e))
