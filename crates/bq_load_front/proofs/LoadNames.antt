-- A load is given a label exactly where its text names a file by it.
use Rattle.std.proofs.Common.{◌≡◌, ℕ, true, false, List, Option, Some, None, Ok, nat_eq, refl, sym, ap, ◌∙◌, inl, inr, codes}
use Rattle.std.specs.Prelude.{◌↔◌}
use Rattle.std.proofs.lemmas.Bool.{cases_Bool}
use Rattle.std.specs.Option.{is_some}
use Rattle.std.specs.List.{ends_with}
use Rattle.bq_base.specs.declared.fault.LoadFault.{LoadFault}
use Rattle.bq_base.specs.declared.fault.LoadFault.TheVariants as f
use Rattle.bq_label.specs.declared.workspace.File.{File}
use Rattle.bq_label.specs.declared.packages.BuildFile.{BuildFile}
use Rattle.bq_label.specs.Label.{PackageParts, LabelParts, ReadsAs, package_of}
use Rattle.bq_label.specs.Reading.{label_of}
use Rattle.bq_label.specs.Packages.{package_named, label_file}
use Rattle.bq_load_front.specs.Crossing.{crosses}
use Rattle.bq_load_front.specs.NamedFile.{has_load_form, bzl_label, fault_of_file, unless_fault, file_named, load_label}
use Rattle.bq_load_front.specs.LabelLaws.{NamesFile}
use Rattle.bq_load_front.proofs.UnreadLabels.{if_bzl}
use Rattle.bq_load_front.proofs.Tests.{form_in_words, form_from_words, stem_of, has_stem, listed_package, package_listed, file_is_there, there_is_file, owned, uncrossed}

-- ---- the label of a .bzl file

pub record IsBzlLabel (own : PackageParts) (text : List ℕ) (l : LabelParts) : Type 0 where
  pub form : has_load_form text ≡ true
  pub reads : label_of own text ≡ Some l
  pub bzl : ends_with nat_eq l.name (codes ".bzl") ≡ true

of_bzl : (x : Option LabelParts) (l : LabelParts) → if_bzl x ≡ Some l → (x ≡ Some l) × (ends_with nat_eq l.name (codes ".bzl") ≡ true)
of_bzl None l e = absurd (cc)
of_bzl (Some m) l e = elim (cases_Bool (ends_with nat_eq m.name (codes ".bzl"))) [
  | inl y ↦
      let is : Some m ≡ Some l = sym (rw y refl) ∙ e in
      let same : m ≡ l = cc in
      (is, sym (ap (λ (k : LabelParts). ends_with nat_eq k.name (codes ".bzl")) same) ∙ y)
  | inr n ↦ let no : None ≡ Some l = sym (rw n refl) ∙ e in absurd (cc)
]

pub bzl_label_is : (own : PackageParts) (text : List ℕ) (l : LabelParts) → bzl_label own text ≡ Some l → IsBzlLabel own text l
unfolding bzl_label
bzl_label_is own text l e = elim (cases_Bool (has_load_form text)) [
  | inl y ↦
      let found = of_bzl (label_of own text) l (sym (rw y refl) ∙ e) in
      record { form = y; reads = found.0; bzl = found.1 }
  | inr n ↦ let no : None ≡ Some l = sym (rw n refl) ∙ e in absurd (cc)
]

pub is_bzl_label : (own : PackageParts) (text : List ℕ) (l : LabelParts) → IsBzlLabel own text l → bzl_label own text ≡ Some l
unfolding bzl_label
is_bzl_label own text l x = rw (x.form, x.reads, x.bzl) refl

-- ---- the file

pub record IsFile (files : List File) (packages : List BuildFile) (l : LabelParts) : Type 0 where
  pub listed : is_some (package_named packages (package_of l)) ≡ true
  pub uncrossed : crosses packages l ≡ false
  pub file : is_some (label_file files l) ≡ true

pub no_fault : (files : List File) (packages : List BuildFile) (l : LabelParts) → fault_of_file files packages l ≡ None → IsFile files packages l
unfolding fault_of_file
no_fault files packages l e = elim (cases_Bool (is_some (package_named packages (package_of l)))) [
  | inr n ↦ let no : Some f.NoPackage ≡ None = sym (rw n refl) ∙ e in absurd (cc)
  | inl listed ↦ elim (cases_Bool (crosses packages l)) [
    | inl y ↦ let no : Some f.CrossesPackage ≡ None = sym (rw (listed, y) refl) ∙ e in absurd (cc)
    | inr uncrossed ↦ elim (cases_Bool (is_some (label_file files l))) [
      | inl file ↦ record { listed = listed; uncrossed = uncrossed; file = file }
      | inr n ↦ let no : Some f.NoSuchFile ≡ None = sym (rw (listed, uncrossed, n) refl) ∙ e in absurd (cc)
    ]
  ]
]

pub without_fault : (files : List File) (packages : List BuildFile) (l : LabelParts) → IsFile files packages l → fault_of_file files packages l ≡ None
unfolding fault_of_file
without_fault files packages l x = rw (x.listed, x.uncrossed, x.file) refl

-- ---- both

named_by : (files : List File) (packages : List BuildFile) (line : ℕ) (x : Option LabelParts) (l : LabelParts) → file_named files packages line x ≡ Ok l
    → (x ≡ Some l) × (fault_of_file files packages l ≡ None)
named_by files packages line None l e = absurd (cc)
named_by files packages line (Some m) l e = unless (fault_of_file files packages m) refl e where
  unless : (why : Option LoadFault) → fault_of_file files packages m ≡ why → unless_fault line m why ≡ Ok l → (Some m ≡ Some l) × (fault_of_file files packages l ≡ None)
  unless None is k = let same : m ≡ l = cc in (ap Some same, sym (ap (fault_of_file files packages) same) ∙ is)
  unless (Some kind) is k = absurd (cc)

pub named : (files : List File) (packages : List BuildFile) (own : PackageParts) (line : ℕ) (text : List ℕ) (l : LabelParts) → load_label files packages own line text ≡ Ok l
    → IsBzlLabel own text l × IsFile files packages l
unfolding load_label
named files packages own line text l e =
    let found = named_by files packages line (bzl_label own text) l e in
    (bzl_label_is own text l found.0, no_fault files packages l found.1)

pub gives : (files : List File) (packages : List BuildFile) (own : PackageParts) (line : ℕ) (text : List ℕ) (l : LabelParts) → IsBzlLabel own text l → IsFile files packages l
    → load_label files packages own line text ≡ Ok l
unfolding load_label
gives files packages own line text l label file =
    ap (file_named files packages line) (is_bzl_label own text l label) ∙ ap (unless_fault line l) (without_fault files packages l file)

module _ (forms : (own : PackageParts) (text : List ℕ) (l : LabelParts) → (label_of own text ≡ Some l) ↔ ReadsAs own text l) where
  pub names_file : (files : List File) (packages : List BuildFile) (own : PackageParts) (line : ℕ) (text : List ℕ) (l : LabelParts) → load_label files packages own line text ≡ Ok l
      → NamesFile files packages own text l
  names_file files packages own line text l e =
      let both = named files packages own line text l e in
      record {
        form = form_in_words text both.0.form;
        reads = (forms own text l).0 both.0.reads;
        bzl = stem_of l.name both.0.bzl;
        listed = listed_package packages (package_of l) both.1.listed;
        owned = owned packages l both.1.uncrossed;
        file = file_is_there files l both.1.file;
      }

  pub file_is_named : (files : List File) (packages : List BuildFile) (own : PackageParts) (line : ℕ) (text : List ℕ) (l : LabelParts) → NamesFile files packages own text l
      → load_label files packages own line text ≡ Ok l
  file_is_named files packages own line text l x =
      gives files packages own line text l
      (record { form = form_from_words text x.form; reads = (forms own text l).1 x.reads; bzl = has_stem l.name x.bzl.0 x.bzl.1 })
      (record {
        listed = package_listed packages (package_of l) x.listed;
        uncrossed = uncrossed packages l x.owned;
        file = there_is_file files l x.file.0 x.file.1;
      })
