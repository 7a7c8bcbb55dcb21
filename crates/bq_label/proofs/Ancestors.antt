-- A directory above a path that is a package is at or before the last package before the path, so it isn't longer than what the two have
-- in common.
use Rattle.std.proofs.Common.{◌≡◌, ◌≢◌, ◌+◌, ◌-◌, ◌<◌, ◌≤◌, ◌==◌, ◌&&◌, ℕ, zero, suc, Bool, true, false, List, [], ◌∷◌, None, length, take, get_or, refl, sym, ap, subst, ◌∙◌, arith, inl, inr}
use Rattle.std.proofs.lemmas.Bool.{cases_Bool, cases_lt, false≢true}
use Rattle.std.specs.Str.{bytes_eq}
use Rattle.std.specs.List.Sorted.{IsStrictlySortedBy, IsPartitionedBy, IsPartitionPoint}
use Rattle.std.specs.Ordering.{nat_cmp, ordering_then, is_lt, is_eq}
use Rattle.std.specs.Cmp.Lexicographic.{slice_cmp, nat_list_cmp_total}
use Rattle.std.specs.declared.cmp.Ordering.{Ordering}
use Rattle.std.specs.declared.cmp.Ordering.TheVariants.{Less, Equal, Greater}
use Rattle.std.proofs.lemmas.Cmp.{tied_itself}
use Rattle.std.proofs.lemmas.Map.Keys.{Less-from_sorted}
use Rattle.std.proofs.lemmas.Map.Text.{is_eq-slice_cmp}
use Rattle.bq_label.specs.declared.packages.BuildFile.{BuildFile}
use Rattle.bq_label.specs.Paths.{common_len}
use Rattle.bq_label.specs.Label.{PackageParts, package_at}
use Rattle.bq_label.specs.Packages.{id_cmp, package_cmp, is_package_id, package_named, common_in, HasNoneLonger}
use Rattle.bq_label.proofs.Above.{same_bytes}
use Rattle.bq_label.proofs.Readings.{first_of_two, second_of_two}
use Rattle.bq_label.proofs.Searches.{find_none}
use Rattle.bq_label.proofs.Neighbours.{below_longer, below_whole, first_decides}
use Rattle.bq_label.proofs.BuildFiles.{by_id}

less_is : (o : Ordering) → is_lt o ≡ true → o ≡ Less
less_is Less h = refl
less_is Equal h = absurd (false≢true h)
less_is Greater h = absurd (false≢true h)

-- packages before a text of a repository come first
pub before_first : (packages : List BuildFile) (target : PackageParts) → IsStrictlySortedBy package_cmp packages → IsPartitionedBy (λ b. is_lt (id_cmp b.id target)) packages
before_first packages target s i j d le l h = elim (cases_lt i j) [
  | inl less ↦
      let below : package_cmp (get_or packages i d) (get_or packages j d) ≡ Less = Less-from_sorted package_cmp packages i j d s less l in
      ap is_lt (by_id.trans ((get_or packages i d).id) ((get_or packages j d).id) target below (less_is (id_cmp ((get_or packages j d).id) target) h))
  | inr more ↦
      let same : j ≡ i = omega arith in
      subst (λ (k : ℕ). is_lt (id_cmp ((get_or packages k d).id) target) ≡ true) same h
]

-- so many packages are before the text, and the others aren't
abbrev pub IsSplit : List BuildFile → PackageParts → ℕ → Type 0
IsSplit packages target i = IsPartitionPoint (λ b. is_lt (id_cmp b.id target) ≡ true) (λ b. is_lt (id_cmp b.id target) ≡ false) packages i

any_default : (packages : List BuildFile) (k : ℕ) (d e : BuildFile) → k < length packages → get_or packages k d ≡ get_or packages k e
any_default [] k d e l = absurd (omega arith)
any_default (b ∷ bs) zero d e l = refl
any_default (b ∷ bs) (suc k) d e l = any_default bs k d e (omega arith)

differ : (a b : List ℕ) → bytes_eq a b ≡ false → slice_cmp nat_cmp a b ≢ Equal
differ a b n e = false≢true (sym n ∙ (sym (is_eq-slice_cmp a b) ∙ ap is_eq e))

tied_text : (t : List ℕ) → slice_cmp nat_cmp t t ≡ Equal
tied_text t = tied_itself nat_list_cmp_total t

module _ (packages : List BuildFile) (repo path : List ℕ) (s : IsStrictlySortedBy package_cmp packages) where
  module _ (k : ℕ) (room : k < length path) where
    abbrev above : PackageParts
    above = package_at repo (take k path)

    above_is_before : id_cmp above (package_at repo path) ≡ Less
    above_is_before = ap (λ (o : Ordering). ordering_then o (slice_cmp nat_cmp (take k path) path)) (tied_text repo) ∙ below_whole path k room

    is_above : (b : BuildFile) → is_package_id repo (take k path) b ≡ true → id_cmp b.id (package_at repo path) ≡ Less
    is_above b h =
        let r : b.id.repo ≡ repo = same_bytes b.id.repo repo (first_of_two (bytes_eq b.id.repo repo) (bytes_eq b.id.package (take k path)) h) in
        let p : b.id.package ≡ take k path = same_bytes b.id.package (take k path) (second_of_two (bytes_eq b.id.repo repo) (bytes_eq b.id.package (take k path)) h) in
        ap (λ (x : List ℕ). id_cmp (package_at x b.id.package) (package_at repo path)) r
        ∙ (ap (λ (x : List ℕ). id_cmp (package_at repo x) (package_at repo path)) p ∙ above_is_before)

    tied_above : (b : BuildFile) → is_package_id repo (take k path) b ≡ true → id_cmp b.id above ≡ Equal
    tied_above b h =
        let r : b.id.repo ≡ repo = same_bytes b.id.repo repo (first_of_two (bytes_eq b.id.repo repo) (bytes_eq b.id.package (take k path)) h) in
        let p : b.id.package ≡ take k path = same_bytes b.id.package (take k path) (second_of_two (bytes_eq b.id.repo repo) (bytes_eq b.id.package (take k path)) h) in
        ap (λ (x : List ℕ). id_cmp (package_at x b.id.package) above) r
        ∙ (ap (λ (x : List ℕ). id_cmp (package_at repo x) above) p ∙ tied_itself by_id above)

    none_there : (i : ℕ) → ((j : ℕ) (d : BuildFile) → j < i → j < length packages → id_cmp ((get_or packages j d).id) above ≡ Less)
        → ((j : ℕ) (d : BuildFile) → i ≤ j → j < length packages → is_lt (id_cmp ((get_or packages j d).id) (package_at repo path)) ≡ false) → package_named packages above ≡ None
    unfolding package_named
    none_there i f g = find_none (is_package_id repo (take k path)) packages (λ j d l. elim (cases_Bool (is_package_id repo (take k path) (get_or packages j d))) [
      | inl y ↦ elim (cases_lt j i) [
        | inl below ↦ let no : Less ≡ Equal = sym (f j d below l) ∙ tied_above (get_or packages j d) y in absurd (cc)
        | inr after ↦ absurd (false≢true (sym (g j d after l) ∙ ap is_lt (is_above (get_or packages j d) y)))
      ]
      | inr n ↦ n
    ])

    -- all up to a package that is before are before
    up_to : (last : ℕ) → last < length packages → ((d : BuildFile) → id_cmp ((get_or packages last d).id) above ≡ Less) → (j : ℕ) (d : BuildFile) → j < last + 1 → id_cmp ((get_or packages j d).id) above ≡ Less
    up_to last l h j d le = elim (cases_lt j last) [
      | inl less ↦ by_id.trans ((get_or packages j d).id) ((get_or packages last d).id) above (Less-from_sorted package_cmp packages j last d s less l) (h d)
      | inr more ↦ let same : last ≡ j = omega (arith, le, more) in subst (λ (m : ℕ). id_cmp ((get_or packages m d).id) above ≡ Less) same (h d)
    ]

    -- a package before the path is before the directory above, if it has less in common with the path
    shorter : (p : PackageParts) → p.repo ≡ repo → id_cmp p (package_at repo path) ≡ Less → common_len p.package path < k → id_cmp p above ≡ Less
    shorter p r h c =
        let tied : slice_cmp nat_cmp p.repo repo ≡ Equal = ap (λ (x : List ℕ). slice_cmp nat_cmp x repo) r ∙ tied_text repo in
        let less : slice_cmp nat_cmp p.package path ≡ Less = sym (ap (λ (o : Ordering). ordering_then o (slice_cmp nat_cmp p.package path)) tied) ∙ h in
        ap (λ (o : Ordering). ordering_then o (slice_cmp nat_cmp p.package (take k path))) tied ∙ below_longer p.package path k less c (omega (arith, room))

    -- or is of another repository
    of_another : (p : PackageParts) → slice_cmp nat_cmp p.repo repo ≢ Equal → id_cmp p (package_at repo path) ≡ Less → id_cmp p above ≡ Less
    of_another p n h = first_decides (slice_cmp nat_cmp p.repo repo) (slice_cmp nat_cmp p.package path) (slice_cmp nat_cmp p.package (take k path)) n h

  pub none_before : (i : ℕ) → i ≡ 0 → IsSplit packages (package_at repo path) i → HasNoneLonger packages repo path 0
  none_before i e p k more room = none_there k room i (λ j d l w. absurd (omega (arith, l, e))) (λ j d g w. p.1 j d g w)

  module _ (i : ℕ) (some : 0 < i) (size : i ≤ length packages) (last : BuildFile) (is : last ≡ get_or packages (i - 1) last) (p : IsSplit packages (package_at repo path) i) where
    within : i - 1 < length packages
    within = omega (arith, some, size)

    last_before : id_cmp last.id (package_at repo path) ≡ Less
    last_before = ap (λ (b : BuildFile). id_cmp b.id (package_at repo path)) is ∙ less_is _ (p.0 (i - 1) last (omega arith) (omega (arith, some)))

    by_last : (k : ℕ) (room : k < length path) → id_cmp last.id (above k room) ≡ Less → package_named packages (above k room) ≡ None
    by_last k room h =
        none_there k room i
        (λ j d l w. up_to k room (i - 1) within (λ e. ap (λ (b : BuildFile). id_cmp b.id (above k room)) (any_default packages (i - 1) e last within ∙ sym is) ∙ h) j d (omega (arith, l, some)))
        (λ j d g w. p.1 j d g w)

    pub none_longer : HasNoneLonger packages repo path (common_in last.id repo path)
    none_longer k more room = elim (cases_Bool (bytes_eq last.id.repo repo)) [
      | inl same ↦ by_last k room (shorter k room last.id (same_bytes last.id.repo repo same) last_before (rw same at more))
      | inr other ↦ by_last k room (of_another k room last.id (differ last.id.repo repo other) last_before)
    ]

-- two texts have no more in common than each of them has
common_within : (xs ys : List ℕ) → common_len xs ys ≤ length ys
unfolding common_len
common_within [] ys = omega arith
common_within (x ∷ xs) [] = omega arith
common_within (x ∷ xs) (y ∷ ys) = elim (cases_Bool (x == y)) [
  | inl e ↦ rw e (omega (arith, common_within xs ys))
  | inr n ↦ rw n (omega arith)
]

pub common_in_within : (p : PackageParts) (repo path : List ℕ) → common_in p repo path ≤ length path
common_in_within p repo path = elim (cases_Bool (bytes_eq p.repo repo)) [
  | inl same ↦ rw same (common_within p.package path)
  | inr other ↦ rw other (omega arith)
]
