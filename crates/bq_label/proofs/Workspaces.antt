-- Checks of an ascending list of files answer for the files in any order.
use Rattle.std.proofs.Common.{◌≡◌, ◌+◌, ◌-◌, ◌<◌, ◌≤◌, ◌&&◌, ℕ, zero, suc, Bool, true, false, not, List, [], ◌∷◌, Option, Some, None, length, take, get_or, slice_index, refl, sym, ap, subst, ◌∙◌, arith, inl, inr, nat_le, Bor}
use Rattle.std.proofs.lemmas.Bool.{cases_Bool, false≢true}
use Rattle.std.specs.Option.{is_some, option_copied}
use Rattle.std.proofs.lemmas.Bool.Decides.{nat_tests}
use Rattle.std.specs.Str.{bytes_eq}
use Rattle.std.specs.List.{list_all, list_any, AllByRecursion, IsDistinct}
use Rattle.std.specs.List.Sorted.{IsPermutation, IsSorted, IsStrictlySortedBy, IsNonDecreasingBy, IsPartitionPoint}
use Rattle.std.specs.Ordering.{nat_cmp, is_lt, is_ge, is_eq, eq_by_cmp, ordering_reverse, ordering_index}
use Rattle.std.specs.Cmp.{IsTotalOrder}
use Rattle.std.specs.Cmp.Lexicographic.{slice_cmp, on_texts}
use Rattle.std.specs.declared.cmp.Ordering.{Ordering}
use Rattle.std.specs.declared.cmp.Ordering.TheVariants.{Less, Equal, Greater}
use Rattle.std.proofs.lemmas.List.Folds.{list_all-map}
use Rattle.std.proofs.lemmas.List.Sorted.{list_any-IsPermutation, IsPermutation-map, IsPermutation-sym, length_permutation}
use Rattle.std.proofs.lemmas.Cmp.{nat_list_cmp_total, nat_list_eq_equiv}
use Rattle.std.proofs.lemmas.Map.Text.{is_eq-slice_cmp}
use Rattle.std.proofs.lemmas.Map.Keys.{sorted_head, sorted_tail, sorted_from_all_adjacent, IsDistinct-IsPermutation}
use Rattle.bq_base.specs.declared.limits.Limits.{Limits}
use Rattle.bq_base.specs.Limits.{AreBounded}
use Rattle.bq_label.specs.declared.workspace.File.{File}
use Rattle.bq_label.specs.Paths.{is_path}
use Rattle.bq_label.specs.Order.{in_order}
use Rattle.bq_label.specs.Workspace.{is_above, are_distinct, are_apart, are_paths, paths_of, path_cmp, file_at, workspace_within, IsWorkspace, IsWorkspaceOf}
use Rattle.bq_label.proofs.Above.{same_bytes, equal_bytes, above_take, above_length, above_slash, above_front}
use Rattle.bq_label.proofs.Orders.{in_order_is, in_order_moves, in_order_ascends}
use Rattle.bq_label.proofs.Readings.{first_of_two, second_of_two}
use Rattle.bq_label.proofs.Searches.{find_here, find_nowhere}

pub by_path : IsTotalOrder path_cmp
by_path = on_texts (λ (f : File). f.path)

pub no_file : File
no_file = record { path = []; content = [] }

-- ---- the file at a path

pub file_here : (files : List File) (path : List ℕ) → IsStrictlySortedBy path_cmp files → (i : ℕ) (d : File) → i < length files → slice_cmp nat_cmp ((get_or files i d).path) path ≡ Equal → file_at files path ≡ Some (get_or files i d)
unfolding file_at
file_here files path s i d l e = find_here (λ (f : File). f.path) nat_list_cmp_total (λ (f : File). bytes_eq f.path path) path (λ f. sym (is_eq-slice_cmp f.path path)) files s i d l e

pub file_nowhere : (files : List File) (path : List ℕ) → IsStrictlySortedBy path_cmp files → (i : ℕ) → (IsNonDecreasingBy (λ (f : File). ordering_index (slice_cmp nat_cmp f.path path)) files → IsPartitionPoint (λ (f : File). slice_cmp nat_cmp f.path path ≡ Less) (λ (f : File). slice_cmp nat_cmp f.path path ≡ Greater) files i) → file_at files path ≡ None
unfolding file_at
file_nowhere files path s i p = find_nowhere (λ (f : File). f.path) nat_list_cmp_total (λ (f : File). bytes_eq f.path path) path (λ f. sym (is_eq-slice_cmp f.path path)) files s i p

-- ---- a file above a path

-- a file stands where a directory above the path is
pub above_found : (files : List File) (path : List ℕ) (k : ℕ) → k < length path → slice_index path k ≡ 47 → is_some (file_at files (take k path)) ≡ true → list_any (λ d. is_above d path) (paths_of files) ≡ true
unfolding file_at
above_found [] path k l e h = absurd (false≢true h)
above_found (f ∷ fs) path k l e h = elim (cases_Bool (bytes_eq f.path (take k path))) [
  | inl y ↦
      let above : is_above f.path path ≡ true = subst (λ (t : List ℕ). is_above t path ≡ true) (sym (same_bytes f.path (take k path) y)) (above_take path k l e) in
      rw above refl
  | inr n ↦
      let rest : list_any (λ d. is_above d path) (paths_of fs) ≡ true = above_found fs path k l e (sym (rw n refl) ∙ h) in
      elim (cases_Bool (is_above f.path path)) [ inl y ↦ rw y refl | inr o ↦ rw o rest ]
]

none_is : (v : Option File) → v ≡ None → is_some v ≡ false
none_is v e = ap is_some e

pub above_none : (files : List File) (path : List ℕ) → ((k : ℕ) → k < length path → slice_index path k ≡ 47 → file_at files (take k path) ≡ None) → list_any (λ d. is_above d path) (paths_of files) ≡ false
unfolding file_at
above_none [] path n = refl
above_none (f ∷ fs) path n = elim (cases_Bool (is_above f.path path)) [
  | inl y ↦
      let found : bytes_eq f.path (take (length f.path) path) ≡ true = equal_bytes f.path (take (length f.path) path) (sym (above_front f.path path y)) in
      let none : file_at (f ∷ fs) (take (length f.path) path) ≡ None = n (length f.path) (above_length f.path path y) (above_slash f.path path y) in
      let some : Some f ≡ None = sym (rw found refl) ∙ none in
      absurd (cc)
  | inr o ↦ rw o (above_none fs path (λ k l e. elim (cases_Bool (bytes_eq f.path (take k path))) [
    | inl y ↦ let some : Some f ≡ None = sym (rw y refl) ∙ n k l e in absurd (cc)
    | inr m ↦ sym (rw m refl) ∙ n k l e
  ]))
]

-- ---- no path stands twice

less_apart : (p q : List ℕ) → slice_cmp nat_cmp p q ≡ Less → bytes_eq p q ≡ false
less_apart p q h = sym (is_eq-slice_cmp p q) ∙ ap is_eq h

all_apart : (p : List ℕ) (fs : List File) → AllByRecursion (λ (g : File). slice_cmp nat_cmp p g.path ≡ Less) fs → list_any (bytes_eq p) (paths_of fs) ≡ false
all_apart p [] h = refl
all_apart p (g ∷ gs) h = rw (less_apart p g.path h.0) (all_apart p gs h.1)

pub distinct_from_strict : (files : List File) → IsStrictlySortedBy path_cmp files → are_distinct (paths_of files) ≡ true
unfolding are_distinct
distinct_from_strict [] s = refl
distinct_from_strict (f ∷ fs) s = rw (all_apart f.path fs (sorted_head path_cmp f fs s)) (distinct_from_strict fs (sorted_tail path_cmp f fs s))

stands : (p : List ℕ) (fs : List File) (j : ℕ) (d : File) → j < length fs → p ≡ (get_or fs j d).path → list_any (bytes_eq p) (paths_of fs) ≡ true
stands p [] j d l e = absurd (omega arith)
stands p (f ∷ fs) zero d l e = rw (equal_bytes p f.path e) refl
stands p (f ∷ fs) (suc j) d l e = elim (cases_Bool (bytes_eq p f.path)) [
  | inl y ↦ rw y refl
  | inr n ↦ rw n (stands p fs j d (omega arith) e)
]

-- a path that stands at two places
pub twice : (files : List File) (k : ℕ) (d : File) → suc k < length files → (get_or files k d).path ≡ (get_or files (suc k) d).path → are_distinct (paths_of files) ≡ false
unfolding are_distinct
twice [] k d l e = absurd (omega arith)
twice (f ∷ fs) zero d l e = rw (stands f.path fs 0 d (omega arith) e) refl
twice (f ∷ fs) (suc k) d l e = rw (twice fs k d (omega arith) e) (no_more (not (list_any (bytes_eq f.path) (paths_of fs))))
  where
    no_more : (b : Bool) → (b && false) ≡ false
    no_more true = refl
    no_more false = refl

equal_from : (r s : Ordering) → s ≡ ordering_reverse r → is_lt s ≡ false → is_lt r ≡ false → r ≡ Equal
equal_from Less s e a b = absurd (false≢true (sym b))
equal_from Equal s e a b = refl
equal_from Greater s e a b = absurd (false≢true (sym a ∙ ap is_lt e))

-- neighbours that do not ascend are at one path
pub not_ascending : (files : List File) (k : ℕ) (d : File) → IsSorted path_cmp files → k + 1 < length files → is_lt (path_cmp (get_or files k d) (get_or files (k + 1) d)) ≡ false → are_distinct (paths_of files) ≡ false
not_ascending files k d s l n =
    let f : File = get_or files k d in
    let g : File = get_or files (k + 1) d in
    let equal : path_cmp f g ≡ Equal = equal_from (path_cmp f g) (path_cmp g f) (by_path.antisymm g f) (s k d (omega arith) l) n in
    let same : f.path ≡ g.path = same_bytes f.path g.path (sym (is_eq-slice_cmp f.path g.path) ∙ ap is_eq equal) in
    let next : k + 1 ≡ suc k = omega arith in
    twice files k d (omega arith) (same ∙ ap (λ (n : ℕ). (get_or files n d).path) next)

pub strict_from_adjacent : (files : List File) → ((k : ℕ) (d : File) → k + 1 < length files → path_cmp (get_or files k d) (get_or files (k + 1) d) ≡ Less) → IsStrictlySortedBy path_cmp files
strict_from_adjacent files f = sorted_from_all_adjacent by_path files no_file (λ k l. f k no_file l)

pub same_default : (files : List File) (k : ℕ) (d e : File) → k < length files → get_or files k d ≡ get_or files k e
same_default [] k d e l = absurd (omega arith)
same_default (f ∷ fs) zero d e l = refl
same_default (f ∷ fs) (suc k) d e l = same_default fs k d e (omega arith)

not_less : (r : Ordering) → is_ge r ≡ true → is_lt r ≡ false
not_less Less h = absurd (false≢true h)
not_less Equal h = refl
not_less Greater h = refl

pub at_or_above : (files : List File) (at : ℕ) (d e : File) → IsSorted path_cmp files → 1 ≤ at → at < length files → is_ge (slice_cmp nat_cmp ((get_or files (at - 1) d).path) ((get_or files at e).path)) ≡ true → are_distinct (paths_of files) ≡ false
at_or_above files zero d e s one l h = absurd (omega arith)
at_or_above files (suc k) d e s one l h =
    let before : suc k - 1 ≡ k = omega arith in
    let after : suc k ≡ k + 1 = omega arith in
    let here : get_or files (suc k) e ≡ get_or files (k + 1) d = same_default files (suc k) e d l ∙ ap (λ (n : ℕ). get_or files n d) after in
    not_ascending files k d s (omega arith) (not_less (path_cmp (get_or files k d) (get_or files (k + 1) d))
    (subst (λ (g : File). is_ge (slice_cmp nat_cmp ((get_or files k d).path) (g.path)) ≡ true) here (subst (λ (n : ℕ). is_ge (slice_cmp nat_cmp ((get_or files n d).path) ((get_or files (suc k) e).path)) ≡ true) before h)))

pub copied_some : (r : Option (Bor File)) → is_some (option_copied r) ≡ is_some r
copied_some None = refl
copied_some (Some f) = refl

-- ---- the checks together, for files in any order

pub are_paths_is : (files : List File) → are_paths (paths_of files) ≡ (list_all (λ (f : File). is_path f.path) files && are_distinct (paths_of files) && are_apart (paths_of files))
unfolding are_paths
are_paths_is files = rw (list_all-map is_path (λ (f : File). f.path) files) refl

list_all_not : {X : Type 0} (p : X → Bool) (xs : List X) → list_all p xs ≡ not (list_any (λ x. not (p x)) xs)
list_all_not p [] = refl
list_all_not p (x ∷ xs) = elim (cases_Bool (p x)) [
  | inl y ↦ rw y (list_all_not p xs)
  | inr n ↦ rw n refl
]

list_all_moved : {X : Type 0} (p : X → Bool) (xs ys : List X) → IsPermutation xs ys → list_all p xs ≡ list_all p ys
list_all_moved p xs ys m = list_all_not p xs ∙ (ap not (list_any-IsPermutation (λ x. not (p x)) xs ys m) ∙ sym (list_all_not p ys))

list_all_alike : {X : Type 0} (p q : X → Bool) → ((x : X) → p x ≡ q x) → (xs : List X) → list_all p xs ≡ list_all q xs
list_all_alike p q e [] = refl
list_all_alike p q e (x ∷ xs) = rw (e x, list_all_alike p q e xs) refl

none_equal : (p : List ℕ) (ps : List (List ℕ)) → list_any (bytes_eq p) ps ≡ false → AllByRecursion (λ q. bytes_eq p q ≡ false) ps
none_equal p [] h = tt
none_equal p (q ∷ qs) h = elim (cases_Bool (bytes_eq p q)) [
  | inl y ↦ absurd (false≢true (sym h ∙ rw y refl))
  | inr n ↦ (n, none_equal p qs (sym (rw n refl) ∙ h))
]

equal_none : (p : List ℕ) (ps : List (List ℕ)) → AllByRecursion (λ q. bytes_eq p q ≡ false) ps → list_any (bytes_eq p) ps ≡ false
equal_none p [] h = refl
equal_none p (q ∷ qs) h = rw h.0 (equal_none p qs h.1)

distinct_from : (ps : List (List ℕ)) → are_distinct ps ≡ true → IsDistinct bytes_eq ps
unfolding are_distinct IsDistinct
distinct_from [] h = tt
distinct_from (p ∷ ps) h = elim (cases_Bool (list_any (bytes_eq p) ps)) [
  | inl y ↦ absurd (false≢true (sym (rw y refl) ∙ h))
  | inr n ↦ (none_equal p ps n, distinct_from ps (sym (rw n refl) ∙ h))
]

from_distinct : (ps : List (List ℕ)) → IsDistinct bytes_eq ps → are_distinct ps ≡ true
unfolding are_distinct IsDistinct
from_distinct [] h = refl
from_distinct (p ∷ ps) h = rw (equal_none p ps h.0) (from_distinct ps h.1)

distinct_moves : (ps qs : List (List ℕ)) → IsPermutation ps qs → are_distinct ps ≡ true → are_distinct qs ≡ true
distinct_moves ps qs m h = from_distinct qs (IsDistinct-IsPermutation bytes_eq (nat_list_eq_equiv.symm) ps qs m (distinct_from ps h))

distinct_moved : (ps qs : List (List ℕ)) → IsPermutation ps qs → are_distinct ps ≡ are_distinct qs
distinct_moved ps qs m = elim (cases_Bool (are_distinct ps)) [
  | inl y ↦ y ∙ sym (distinct_moves ps qs m y)
  | inr n ↦ elim (cases_Bool (are_distinct qs)) [
    | inl z ↦ absurd (false≢true (sym n ∙ distinct_moves qs ps (IsPermutation-sym ps qs m) z))
    | inr z ↦ n ∙ sym z
  ]
]

apart_moved : (ps qs : List (List ℕ)) → IsPermutation ps qs → are_apart ps ≡ are_apart qs
unfolding are_apart
apart_moved ps qs m =
    list_all_alike (λ p. not (list_any (λ d. is_above d p) ps)) (λ p. not (list_any (λ d. is_above d p) qs)) (λ p. ap not (list_any-IsPermutation (λ d. is_above d p) ps qs m)) ps
    ∙ list_all_moved (λ p. not (list_any (λ d. is_above d p) qs)) ps qs m

pub paths_moved : (files moved : List File) → IsPermutation files moved → are_paths (paths_of files) ≡ are_paths (paths_of moved)
unfolding are_paths
paths_moved files moved m =
    let ps : List (List ℕ) = paths_of files in
    let qs : List (List ℕ) = paths_of moved in
    let n : IsPermutation ps qs = IsPermutation-map (λ (f : File). f.path) files moved m in
    rw (list_all_moved is_path ps qs n, distinct_moved ps qs n, apart_moved ps qs n) refl

-- ---- the workspace of files

module _ (limits : Limits) where
  pub too_many : (files : List File) → limits.files < length files → workspace_within limits files ≡ None
  unfolding workspace_within
  too_many files l = let no : nat_le (length files) limits.files ≡ false = grind (arith, nat_tests) in rw no refl

  pub no_workspace : (files moved : List File) → length files ≤ limits.files → IsPermutation files moved → are_paths (paths_of moved) ≡ false → workspace_within limits files ≡ None
  unfolding workspace_within
  no_workspace files moved l m h =
      let few : nat_le (length files) limits.files ≡ true = grind (arith, nat_tests) in
      rw (few, paths_moved files moved m, h) refl

  pub workspace_is : (files moved : List File) → length files ≤ limits.files → IsPermutation files moved → IsStrictlySortedBy path_cmp moved → are_paths (paths_of moved) ≡ true
      → workspace_within limits files ≡ Some moved
  unfolding workspace_within
  workspace_is files moved l m s h =
      let few : nat_le (length files) limits.files ≡ true = grind (arith, nat_tests) in
      rw (few, paths_moved files moved m, h) (ap Some (in_order_is path_cmp by_path files moved m s))

  pub is_workspace : (files moved : List File) → length files ≤ limits.files → AreBounded limits → IsPermutation files moved → IsStrictlySortedBy path_cmp moved → are_paths (paths_of moved) ≡ true
      → IsWorkspace moved
  is_workspace files moved l b m s h = record { few = omega (arith, length_permutation files moved m, l, b.files); valid = h; ascending = s }

-- no file is at a path
pub any_at_path : (files : List File) (path : List ℕ) → list_any (bytes_eq path) (paths_of files) ≡ is_some (file_at files path)
unfolding file_at
any_at_path [] path = refl
any_at_path (f ∷ fs) path = elim (cases_Bool (bytes_eq f.path path)) [
  | inl y ↦ rw (nat_list_eq_equiv.symm path f.path, y) refl
  | inr n ↦ rw (nat_list_eq_equiv.symm path f.path, n) (any_at_path fs path)
]

-- ---- `workspace_of` in words

apart_files : (f : File) (fs : List File) → list_any (bytes_eq f.path) (paths_of fs) ≡ false → AllByRecursion (λ (g : File). eq_by_cmp path_cmp f g ≡ false) fs
apart_files f [] h = tt
apart_files f (g ∷ gs) h = elim (cases_Bool (bytes_eq f.path g.path)) [
  | inl y ↦ absurd (false≢true (sym h ∙ rw y refl))
  | inr n ↦ (is_eq-slice_cmp f.path g.path ∙ n, apart_files f gs (sym (rw n refl) ∙ h))
]

distinct_files : (fs : List File) → are_distinct (paths_of fs) ≡ true → IsDistinct (eq_by_cmp path_cmp) fs
unfolding are_distinct IsDistinct
distinct_files [] h = tt
distinct_files (f ∷ fs) h = elim (cases_Bool (list_any (bytes_eq f.path) (paths_of fs))) [
  | inl y ↦ absurd (false≢true (sym (rw y refl) ∙ h))
  | inr n ↦ (apart_files f fs n, distinct_files fs (sym (rw n refl) ∙ h))
]

paths_distinct : (ps : List (List ℕ)) → are_paths ps ≡ true → are_distinct ps ≡ true
unfolding are_paths
paths_distinct ps h = second_of_two (list_all is_path ps) (are_distinct ps) (first_of_two (list_all is_path ps && are_distinct ps) (are_apart ps) h)

few_from : (n m : ℕ) → nat_le n m ≡ true → n ≤ m
few_from n m h = grind (arith, nat_tests)

some_list : {A : Type 0} {x y : A} → Some x ≡ Some y → x ≡ y
some_list e = cc

pub workspace_found : (limits : Limits) → AreBounded limits → (files w : List File) → workspace_within limits files ≡ Some w → IsWorkspaceOf limits files w
unfolding workspace_within
workspace_found limits bounded files w h = elim (cases_Bool (nat_le (length files) limits.files && are_paths (paths_of files))) [
  | inr n ↦ let none : None ≡ Some w = sym (rw n refl) ∙ h in absurd (cc)
  | inl y ↦
      let few : length files ≤ limits.files = few_from (length files) limits.files (first_of_two (nat_le (length files) limits.files) (are_paths (paths_of files)) y) in
      let valid : are_paths (paths_of files) ≡ true = second_of_two (nat_le (length files) limits.files) (are_paths (paths_of files)) y in
      let is : in_order path_cmp files ≡ w = some_list (sym (rw y refl) ∙ h) in
      let moved : IsPermutation files (in_order path_cmp files) = in_order_moves path_cmp by_path files in
      let strict : IsStrictlySortedBy path_cmp (in_order path_cmp files) = in_order_ascends path_cmp by_path files (distinct_files files (paths_distinct (paths_of files) valid)) in
      let whole : IsWorkspaceOf limits files (in_order path_cmp files) = record {
        few = few;
        moved = moved;
        valid = is_workspace limits files (in_order path_cmp files) few bounded moved strict (sym (paths_moved files (in_order path_cmp files) moved) ∙ valid);
      } in
      subst (λ (v : List File). IsWorkspaceOf limits files v) is whole
]

pub workspace_from : (limits : Limits) (files w : List File) → IsWorkspaceOf limits files w → workspace_within limits files ≡ Some w
workspace_from limits files w h = workspace_is limits files w h.few h.moved h.valid.ascending h.valid.valid
