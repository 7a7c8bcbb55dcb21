-- The packages that modules give are found by labels, and ascend as those of the workspace do.
use Rattle.std.proofs.Common.{◌≡◌, ◌∙◌, ◌&&◌, cond, suc, ℕ, Bool, true, false, List, [], ◌∷◌, Option, Some, None, refl, sym, ap, subst, option_map, option_and_then, slice_get, position, if◌then◌else◌, inl, inr}
use Rattle.std.specs.Prelude.{IfSome}
use Rattle.std.specs.Str.{bytes_eq}
use Rattle.std.specs.List.{All, AllByRecursion, cons_option, find}
use Rattle.std.specs.List.Sorted.{IsStrictlySortedBy}
use Rattle.std.specs.Cmp.Lexicographic.{bytes_decides}
use Rattle.std.specs.declared.cmp.Ordering.TheVariants.{Less}
use Rattle.std.proofs.lemmas.Bool.{cases_Bool}
use Rattle.std.proofs.lemmas.List.Elements.{recursion_from_All}
use Rattle.bq_base_texts.proofs.Positions.{position_cons}
use Rattle.bq_label.specs.declared.packages.BuildFile.{BuildFile}
use Rattle.bq_label.specs.Label.{PackageParts, LabelParts, package_of, label_in, last_segment}
use Rattle.bq_label.specs.Paths.{is_path}
use Rattle.bq_label.specs.Packages.{id_cmp, package_cmp, build_label}
use Rattle.bq_label_set.specs.Labels.{same_label}
use Rattle.bq_package_target.specs.Target.{is_of}
use Rattle.bq_package_target.specs.Package.{PackageTargets}
use Rattle.bq_load.specs.Views.{OutcomeView}
use Rattle.bq_package_target.specs.PackageOrder.{id_of, PackagesAscend}
use Rattle.bq_load.specs.Loaded.{package_by, package_in, packages_in}
use Rattle.bq_load.specs.Packages.{labels_of, IsIn, AreOwn}

-- ---- a package that is of its directory

first_true : (a b : Bool) → (a && b) ≡ true → a ≡ true
first_true true b h = refl
first_true false b h = cc

second_true : (a b : Bool) → (a && b) ≡ true → b ≡ true
second_true true b h = h
second_true false b h = cc

same_package : (p : PackageParts) (l : LabelParts) → is_of p l ≡ true → package_of l ≡ p
unfolding is_of
same_package p l h =
    let r : l.repo ≡ p.repo = (bytes_decides l.repo p.repo).0 (first_true (bytes_eq l.repo p.repo) (bytes_eq l.package p.package) h) in
    let q : l.package ≡ p.package = (bytes_decides l.package p.package).0 (second_true (bytes_eq l.repo p.repo) (bytes_eq l.package p.package) h) in
    let one : package_of l ≡ record { repo = p.repo; «package» = p.package } = λ i. record { repo = r i; «package» = q i } in
    one

pub is_own : (own : PackageParts) (p : PackageTargets) → is_of own p.build_file ≡ true → id_of p ≡ own
is_own own p h = same_package own p.build_file h

-- ---- the module of a label

abbrev taken : List OutcomeView → Option ℕ → Option OutcomeView
taken os o = option_and_then (slice_get os) o

none_at : (o : Option ℕ) → taken [] o ≡ None
none_at None = refl
none_at (Some n) = refl

module _ (l : LabelParts) where
  abbrev at : OutcomeView → Bool
  at o = same_label l o.label

  by_place : (o : OutcomeView) (os : List OutcomeView) (b : Bool) (n : Option ℕ) → option_and_then (slice_get os) n ≡ find at os
      → option_and_then (slice_get (o ∷ os)) (cond b (Some 0) (option_map suc n)) ≡ cond b (Some o) (find at os)
  by_place o os true n e = refl
  by_place o os false None e = e
  by_place o os false (Some n) e = e

  at_place : (os : List OutcomeView) → option_and_then (slice_get os) (position (same_label l) (labels_of os)) ≡ find at os
  at_place [] = none_at (position (same_label l) [])
  at_place (o ∷ os) =
      ap (option_and_then (slice_get (o ∷ os))) (position_cons (same_label l) o.label (labels_of os)) ∙ by_place o os (at o) (position (same_label l) (labels_of os)) (at_place os)

-- the module of a label is at the label's number
found_by : (l : LabelParts) (ls : List LabelParts) (os : List OutcomeView) → ls ≡ labels_of os → find (λ o. same_label l o.label) os ≡ option_and_then (slice_get os) (position (same_label l) ls)
found_by l ls os e = sym (ap (λ (z : List LabelParts). option_and_then (slice_get os) (position (same_label l) z)) e ∙ at_place l os)

pub at_number : (l : LabelParts) (ls : List LabelParts) (os : List OutcomeView) → ls ≡ labels_of os → (p : Option PackageTargets)
    → p ≡ option_and_then (λ o. package_by l o.result) (option_and_then (slice_get os) (position (same_label l) ls)) → p ≡ option_and_then (λ o. package_by l o.result) (find (λ o. same_label l o.label) os)
at_number l ls os e p h = h ∙ ap (option_and_then (λ o. package_by l o.result)) (sym (found_by l ls os e))

-- ---- the module of a BUILD file

abbrev or_label : LabelParts → Option LabelParts → LabelParts
or_label l None = l
or_label l (Some m) = m

named_id : (b : BuildFile) (l : LabelParts) → build_label b ≡ Some l → package_of l ≡ b.id
unfolding build_label last_segment
named_id b l e = elim (cases_Bool (is_path (last_segment b.path))) [
  | inl h ↦
      let one : Some (label_in b.id (last_segment b.path)) ≡ Some l = sym (ap (λ (z : Bool). if z then Some (label_in b.id (last_segment b.path)) else None) h) ∙ e in
      sym (ap (λ (z : Option LabelParts). package_of (or_label l z)) one)
  | inr h ↦
      let none : None ≡ Some l = sym (ap (λ (z : Bool). if z then Some (label_in b.id (last_segment b.path)) else None) h) ∙ e in
      absurd (cc)
]

pub named_in : (b : BuildFile) (l : LabelParts) (p : Option PackageTargets) → Some l ≡ build_label b → IsIn (package_of l) p → IsIn b.id p
named_in b l p e h = subst (λ (id : PackageParts). IsIn id p) (named_id b l (sym e)) h

-- ---- all packages

module _ (os : List OutcomeView) where
  abbrev Own : BuildFile → Type 0
  Own b = IsIn b.id (package_in os b)

  in_id : (b : BuildFile) (p : PackageTargets) → Own b → package_in os b ≡ Some p → id_of p ≡ b.id
  in_id b p h e = subst (IsIn b.id) e h

  below_more : (b c : BuildFile) (p : PackageTargets) → id_of p ≡ b.id → package_cmp b c ≡ Less → Own c → (o : Option PackageTargets) → package_in os c ≡ o → (qs : List PackageTargets) → AllByRecursion (λ q. id_cmp (id_of p) (id_of q) ≡ Less) qs
      → AllByRecursion (λ q. id_cmp (id_of p) (id_of q) ≡ Less) (cons_option o qs)
  below_more b c p s h own None e qs a = a
  below_more b c p s h own (Some q) e qs a = ((λ i. id_cmp (s i) (in_id c q own e i)) ∙ h, a)

  below : (b : BuildFile) (p : PackageTargets) → id_of p ≡ b.id → (bs : List BuildFile) → AllByRecursion Own bs → AllByRecursion (λ c. package_cmp b c ≡ Less) bs → AllByRecursion (λ q. id_cmp (id_of p) (id_of q) ≡ Less) (packages_in bs os)
  below b p s [] own a = tt
  below b p s (c ∷ cs) own a = below_more b c p s a.0 own.0 (package_in os c) refl (packages_in cs os) (below b p s cs own.1 a.1)

  ascend_more : (b : BuildFile) (bs : List BuildFile) → Own b → AllByRecursion Own bs → AllByRecursion (λ c. package_cmp b c ≡ Less) bs → PackagesAscend (packages_in bs os) → (o : Option PackageTargets) → package_in os b ≡ o
      → PackagesAscend (cons_option o (packages_in bs os))
  unfolding IsStrictlySortedBy
  ascend_more b bs own owns a s None e = s
  ascend_more b bs own owns a s (Some p) e = (below b p (in_id b p own e) bs owns a, s)

  all_ascend : (bs : List BuildFile) → IsStrictlySortedBy package_cmp bs → AllByRecursion Own bs → PackagesAscend (packages_in bs os)
  unfolding IsStrictlySortedBy
  all_ascend [] s own = tt
  all_ascend (b ∷ bs) s own = ascend_more b bs own.0 own.1 s.0 (all_ascend bs s.1 own.1) (package_in os b) refl

  pub packages_ascend : (bs : List BuildFile) → IsStrictlySortedBy package_cmp bs → AreOwn os bs → PackagesAscend (packages_in bs os)
  packages_ascend bs s own = all_ascend bs s (recursion_from_All Own bs own)
