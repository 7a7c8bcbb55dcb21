-- What the tests of the definition say in words.
use Rattle.std.proofs.Common.{◌≡◌, ℕ, ◌++◌, ◌-◌, ◌&&◌, ◌||◌, ◌⊎◌, Bool, true, false, not, List, Option, Some, None, length, take, drop, nat_eq, refl, sym, ap, ◌∙◌, inl, inr, codes}
use Rattle.std.proofs.lemmas.Bool.{cases_Bool}
use Rattle.std.proofs.lemmas.Bool.Decides.{Decides-eqb}
use Rattle.std.proofs.lemmas.Slice.Eq.{bytes_eq-Decides, starts_is, ends_is}
use Rattle.std.specs.Option.{is_some}
use Rattle.std.specs.Str.{bytes_eq}
use Rattle.std.specs.List.{starts_with, ends_with}
use Rattle.bq_label.specs.declared.workspace.File.{File}
use Rattle.bq_label.specs.declared.packages.BuildFile.{BuildFile}
use Rattle.bq_label.specs.Label.{PackageParts, LabelParts, package_at, package_of}
use Rattle.bq_label.specs.Packages.{IsListed, IsFileOf, label_path, label_file, owner_of, package_named}
use Rattle.bq_load_front.specs.Crossing.{is_of, crosses}
use Rattle.bq_load_front.specs.NamedFile.{has_load_form}
use Rattle.bq_load_front.specs.LabelLaws.{HasLoadForm}
use Rattle.bq_label.proofs.Owners.{package_known, package_unknown}
use Rattle.bq_label.proofs.LabelFiles.{file_known, file_unknown}

some_or_none : {A : Type 0} (x : Option A) → ((y : A) × (x ≡ Some y)) ⊎ (x ≡ None)
some_or_none None = inr refl
some_or_none (Some y) = inl (y, refl)

both : (a b : Bool) → (a && b) ≡ true → (a ≡ true) × (b ≡ true)
both true b h = (refl, h)
both false b h = absurd (cc)

not_not : (b : Bool) → not b ≡ false → b ≡ true
not_not true h = refl
not_not false h = absurd (cc)

same_id : (p q : PackageParts) → p.repo ≡ q.repo → p.package ≡ q.package → p ≡ q
same_id p q r t = ap (λ (x : List ℕ). package_at x p.package) r ∙ ap (λ (x : List ℕ). package_at q.repo x) t

both_true : (a b : Bool) → a ≡ true → b ≡ true → (a && b) ≡ true
both_true a b h k = rw (h, k) refl

-- ---- texts

pub form_in_words : (text : List ℕ) → has_load_form text ≡ true → HasLoadForm text
unfolding has_load_form
form_in_words text h = elim (cases_Bool (starts_with nat_eq text (codes "//"))) [
  | inl slashes ↦ (drop 2 text, inl ((starts_is Decides-eqb text (codes "//") (starts_with nat_eq text (codes "//")) refl).0 slashes))
  | inr n ↦ elim (cases_Bool (starts_with nat_eq text (codes "@"))) [
    | inl at ↦ (drop 1 text, inr (inl ((starts_is Decides-eqb text (codes "@") (starts_with nat_eq text (codes "@")) refl).0 at)))
    | inr m ↦
        let colon : starts_with nat_eq text (codes ":") ≡ true = sym (rw (n, m) refl) ∙ h in
        (drop 1 text, inr (inr ((starts_is Decides-eqb text (codes ":") (starts_with nat_eq text (codes ":")) refl).0 colon)))
  ]
]

first_true : (a b : Bool) → a ≡ true → (a || b) ≡ true
first_true a b h = rw h refl

second_true : (a b : Bool) → b ≡ true → (a || b) ≡ true
second_true true b h = refl
second_true false b h = h

begun_by : (text front rest : List ℕ) → text ≡ front ++ rest → starts_with nat_eq text front ≡ true
begun_by text front rest e = (starts_is Decides-eqb text front (starts_with nat_eq text front) refl).1 rest e

pub form_from_words : (text : List ℕ) → HasLoadForm text → has_load_form text ≡ true
unfolding has_load_form
form_from_words text (rest, inl e) = first_true (starts_with nat_eq text (codes "//") || starts_with nat_eq text (codes "@")) (starts_with nat_eq text (codes ":")) (first_true (starts_with nat_eq text (codes "//")) (starts_with nat_eq text (codes "@")) (begun_by text (codes "//") rest e))
form_from_words text (rest, inr (inl e)) = first_true (starts_with nat_eq text (codes "//") || starts_with nat_eq text (codes "@")) (starts_with nat_eq text (codes ":")) (second_true (starts_with nat_eq text (codes "//")) (starts_with nat_eq text (codes "@")) (begun_by text (codes "@") rest e))
form_from_words text (rest, inr (inr e)) = second_true (starts_with nat_eq text (codes "//") || starts_with nat_eq text (codes "@")) (starts_with nat_eq text (codes ":")) (begun_by text (codes ":") rest e)

pub stem_of : (name : List ℕ) → ends_with nat_eq name (codes ".bzl") ≡ true → (stem : List ℕ) × (name ≡ stem ++ codes ".bzl")
stem_of name h = (take (length name - 4) name, (ends_is Decides-eqb name (codes ".bzl") (ends_with nat_eq name (codes ".bzl")) refl).0 h)

pub has_stem : (name stem : List ℕ) → name ≡ stem ++ codes ".bzl" → ends_with nat_eq name (codes ".bzl") ≡ true
has_stem name stem e = (ends_is Decides-eqb name (codes ".bzl") (ends_with nat_eq name (codes ".bzl")) refl).1 stem e

-- ---- packages and files

some_is : {A : Type 0} (x : Option A) → is_some x ≡ true → (y : A) × (x ≡ Some y)
some_is None h = absurd (cc)
some_is (Some y) h = (y, refl)

pub listed_package : (packages : List BuildFile) (p : PackageParts) → is_some (package_named packages p) ≡ true → IsListed packages p
listed_package packages p h =
    let b = some_is (package_named packages p) h in
    let known = package_known packages p b.0 b.1 in
    record { entry = b.0; known = known.known; id = same_id b.0.id p known.repo known.path }

pub package_listed : (packages : List BuildFile) (p : PackageParts) → IsListed packages p → is_some (package_named packages p) ≡ true
package_listed packages p listed = elim (some_or_none (package_named packages p)) [
  | inl b ↦ rw (b.1) refl
  | inr none ↦ absurd (package_unknown packages p none listed.entry listed.known (ap (λ (q : PackageParts). q.repo) listed.id) (ap (λ (q : PackageParts). q.package) listed.id))
]

pub file_is_there : (files : List File) (l : LabelParts) → is_some (label_file files l) ≡ true → (f : File) × IsFileOf files l f
file_is_there files l h = let f = some_is (label_file files l) h in (f.0, file_known files l f.0 f.1)

pub there_is_file : (files : List File) (l : LabelParts) (f : File) → IsFileOf files l f → is_some (label_file files l) ≡ true
there_is_file files l f x = elim (some_or_none (label_file files l)) [
  | inl g ↦ rw (g.1) refl
  | inr none ↦ absurd (file_unknown files l none f x)
]

-- ---- crossing

-- a path lies in another package than its label's
abbrev is_owned_by_other : LabelParts → Option BuildFile → Bool
is_owned_by_other l o = elim o [ Some b ↦ not (is_of l b.id) | None ↦ false ]

pub owned : (packages : List BuildFile) (l : LabelParts) → crosses packages l ≡ false → (b : BuildFile) → owner_of packages (label_path l) ≡ Some b → b.id ≡ package_of l
unfolding crosses is_of
owned packages l h b e =
    let own : (bytes_eq l.repo b.id.repo && bytes_eq l.package b.id.package) ≡ true = not_not (bytes_eq l.repo b.id.repo && bytes_eq l.package b.id.package) (sym (ap (is_owned_by_other l) e) ∙ h) in
    let p = both (bytes_eq l.repo b.id.repo) (bytes_eq l.package b.id.package) own in
    same_id b.id (package_of l) (sym ((bytes_eq-Decides l.repo b.id.repo).0 p.0)) (sym ((bytes_eq-Decides l.package b.id.package).0 p.1))

pub uncrossed : (packages : List BuildFile) (l : LabelParts) → ((b : BuildFile) → owner_of packages (label_path l) ≡ Some b → b.id ≡ package_of l) → crosses packages l ≡ false
unfolding crosses is_of
uncrossed packages l all = elim (some_or_none (owner_of packages (label_path l))) [
  | inl b ↦
      let id : b.0.id ≡ package_of l = all b.0 b.1 in
      let repo : bytes_eq l.repo b.0.id.repo ≡ true = (bytes_eq-Decides l.repo b.0.id.repo).1 (sym (ap (λ (q : PackageParts). q.repo) id)) in
      let path : bytes_eq l.package b.0.id.package ≡ true = (bytes_eq-Decides l.package b.0.id.package).1 (sym (ap (λ (q : PackageParts). q.package) id)) in
      ap (is_owned_by_other l) b.1 ∙ ap not (both_true (bytes_eq l.repo b.0.id.repo) (bytes_eq l.package b.0.id.package) repo path)
  | inr none ↦ ap (is_owned_by_other l) none
]
