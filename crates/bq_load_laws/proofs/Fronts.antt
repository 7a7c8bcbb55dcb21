-- What a file reads as depends on its text, and on which files there are.
use Rattle.std.proofs.Common.{◌≡◌, ◌∙◌, ℕ, Bool, List, [], ◌∷◌, Option, Some, None, Result, Ok, true, codes, is_some, nat_eq, inl, inr, refl, sym, ap, if◌then◌else◌}
use Rattle.std.proofs.Math.Path.{fun_ext}
use Rattle.std.proofs.lemmas.Bool.{cases_Bool}
use Rattle.std.specs.List.{find, list_any, ends_with}
use Rattle.std.specs.Option.{option_map}
use Rattle.bq_base.specs.Fault.{kind_of_load, or_fault_as}
use Rattle.bq_base.specs.declared.fault.Fault.{Fault}
use Rattle.bq_base.specs.declared.fault.FaultKind.{FaultKind}
use Rattle.bq_base.specs.declared.fault.LoadFault.{LoadFault}
use Rattle.bq_base.specs.declared.fault.LoadFault.TheVariants as f
use Rattle.bq_label.specs.declared.workspace.File.{File}
use Rattle.bq_label.specs.declared.packages.BuildFile.{BuildFile}
use Rattle.bq_label.specs.Label.{PackageParts, LabelParts, package_of}
use Rattle.bq_label.specs.Packages.{label_file, split_repository, joined, package_named}
use Rattle.bq_label.specs.Workspace.{paths_of}
use Rattle.bq_label.proofs.Cases.{is_at}
use Rattle.bq_resolve_scope.specs.declared.loads.LoadStmt.{LoadStmt}
use Rattle.bq_load_front.specs.Crossing.{crosses}
use Rattle.bq_load_front.specs.NamedFile.{bzl_label, fault_of_file, load_label, unless_fault}
use Rattle.bq_load_front.specs.NamedFile as named
use Rattle.bq_load_front.proofs.LoadNames.{bzl_label_is}
use Rattle.bq_load_front.specs.declared.front.Front.{Front}
use Rattle.bq_load_front.specs.Resolved.{resolved_file, ◌>>=◌}
use Rattle.bq_load_front.specs.Inputs.{InputParts}
use Rattle.bq_load_front.specs.Parsed.{kind_of, labels_of}
use Rattle.bq_load_front.specs.Front.{load_of, front_by, front_at, front_of}
use Rattle.bq_load_laws.specs.FileReadings.{text_of, AreLoadedAlike, FilesAreThereByPaths, FrontsAreByText}

-- ---- which files there are

-- a file of this path is the label's
abbrev pub is_named : LabelParts → List ℕ → Bool
is_named l path = is_at l.repo (joined l.package l.name) (split_repository path)

there : (test : List ℕ → Bool) (files : List File) → is_some (find (λ f. test f.path) files) ≡ list_any test (paths_of files)
there test [] = refl
there test (f ∷ fs) = elim (cases_Bool (test f.path)) [
  | inl y ↦ rw y refl
  | inr n ↦ rw n (there test fs)
]

pub there_by_paths : (l : LabelParts) (files : List File) → is_some (label_file files l) ≡ list_any (is_named l) (paths_of files)
unfolding label_file
there_by_paths l files = there (is_named l) files

pub files_are_there : FilesAreThereByPaths
files_are_there files others e l = there_by_paths l files ∙ (ap (λ (ps : List (List ℕ)). list_any (is_named l) ps) e ∙ sym (there_by_paths l others))

-- ---- the labels of loads

-- why a label names no file: whether it has a package, crosses into another one, and has a file
abbrev fault_by : (listed crossing found : Bool) → Option LoadFault
fault_by listed crossing found = if listed then (if crossing then Some f.CrossesPackage else (if found then None else Some f.NoSuchFile)) else Some f.NoPackage

module _ (files others : List File) (packages : List BuildFile) (alike : AreLoadedAlike files others) where
  fault_same : (l : LabelParts) → ends_with nat_eq l.name (codes ".bzl") ≡ true → fault_of_file files packages l ≡ fault_of_file others packages l
  unfolding fault_of_file
  fault_same l bzl = ap (fault_by (is_some (package_named packages (package_of l))) (crosses packages l)) (alike l bzl)

  named_same : (line : ℕ) (o : Option LabelParts) → ((l : LabelParts) → o ≡ Some l → ends_with nat_eq l.name (codes ".bzl") ≡ true) → named.file_named files packages line o ≡ named.file_named others packages line o
  named_same line None bzl = refl
  named_same line (Some l) bzl = ap (unless_fault line l) (fault_same l (bzl l refl))

  label_same : (own : PackageParts) (line : ℕ) (text : List ℕ) → load_label files packages own line text ≡ load_label others packages own line text
  unfolding load_label
  label_same own line text = named_same line (bzl_label own text) (λ l e. (bzl_label_is own text l e).bzl)

-- ---- the file of a label

-- what a text gives as the file of this label, where these are the names of rules, and a load reads so
abbrev front_with : List (List ℕ) → (LoadStmt → Result LabelParts (Fault LoadFault)) → LabelParts → List ℕ → Result Front (Fault FaultKind)
front_with rules read l text =
    resolved_file (record { kind = kind_of l; rules = rules }) text >>= λ file. or_fault_as kind_of_load (labels_of read [] file.loads) >>= λ ls. Ok (record { file = file; loads = ls })

module _ (inputs others : InputParts) (rules : inputs.rules ≡ others.rules) (packages : inputs.packages ≡ others.packages) (alike : AreLoadedAlike inputs.files others.files) (l : LabelParts) where
  abbrev own : PackageParts
  own = package_of l

  load_same : (x : LoadStmt) → load_of inputs own x ≡ load_of others own x
  load_same x =
      ap (λ (ps : List BuildFile). load_label inputs.files ps own x.line x.label) packages ∙ label_same inputs.files others.files others.packages alike own x.line x.label

  text_same : (text : List ℕ) → front_by inputs l text ≡ front_by others l text
  text_same text =
      let read : load_of inputs own ≡ load_of others own = fun_ext load_same in
      λ i. front_with (rules i) (read i) l text

  by_files : (a b : Option File) → option_map (λ x. x.content) a ≡ option_map (λ x. x.content) b → front_at inputs l a ≡ front_at others l b
  by_files None None e = refl
  by_files None (Some y) e = absurd (cc)
  by_files (Some x) None e = absurd (cc)
  by_files (Some x) (Some y) e = let same : x.content ≡ y.content = cc in text_same x.content ∙ ap (front_by others l) same

  front_same : text_of inputs.files l ≡ text_of others.files l → front_of inputs l ≡ front_of others l
  unfolding front_of
  front_same e = by_files (label_file inputs.files l) (label_file others.files l) e

pub fronts_are_by_text : FrontsAreByText
fronts_are_by_text inputs others rules packages alike l e = front_same inputs others rules packages alike l e
