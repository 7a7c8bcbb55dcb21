-- Each module has a file of its label.
use Rattle.std.proofs.Common.{◌≡◌, ◌∙◌, ℕ, List, Some, None, inl, inr, refl, sym, subst}
use Rattle.std.proofs.lemmas.Bool.{cases_Bool}
use Rattle.bq_label.specs.declared.workspace.File.{File}
use Rattle.bq_label.specs.declared.packages.BuildFile.{BuildFile}
use Rattle.bq_label.specs.Paths.{is_path}
use Rattle.bq_label.specs.Label.{LabelParts, label_in, last_segment, package_of}
use Rattle.bq_label.specs.Packages.{build_label, packages_of, joined, IsPathOf, IsPackageOf, IsFileOf}
use Rattle.bq_label.specs.Workspace.{IsWorkspace}
use Rattle.bq_label.proofs.BuildFiles.{package_words, file_of_path}
use Rattle.bq_label.proofs.LabelFiles.{path_in_words}
use Rattle.bq_load_front.proofs.LoadNames.{named}
use Rattle.bq_load_front.proofs.Tests.{file_is_there}
use Rattle.bq_load_front.specs.Inputs.{InputParts}
use Rattle.bq_load_front.specs.Parsed.{Fronts}
use Rattle.bq_load_front.specs.Reading.{parsed_of}
use Rattle.bq_load_front.proofs.Fronts.{fronts_are}
use Rattle.bq_load_front.proofs.Loads.{loaded_files}
use Rattle.bq_load_discover.specs.Modules.{IsModule}
use Rattle.bq_package_schema.specs.Schema.{Rules}
use Rattle.bq_load_discover.specs.LoadGraph.{inputs_of}
use Rattle.bq_load_discover.specs.Laws.{ModulesHaveFiles}

same_label : (a b : LabelParts) → Some a ≡ Some b → a ≡ b
same_label a b e = cc

label_is : (b : BuildFile) (l : LabelParts) → build_label b ≡ Some l → label_in b.id (last_segment b.path) ≡ l
unfolding build_label
label_is b l e = elim (cases_Bool (is_path (last_segment b.path))) [
  | inl valid ↦ same_label (label_in b.id (last_segment b.path)) l (sym (rw valid refl) ∙ e)
  | inr none ↦ let no : None ≡ Some l = sym (rw none refl) ∙ e in absurd (cc)
]

of_build_file : (files : List File) (b : BuildFile) (l : LabelParts) → IsPackageOf files b → build_label b ≡ Some l → (f : File) × IsFileOf files l f
of_build_file files b l p e =
    let at = file_of_path files b.path p.known in
    let own : IsFileOf files (label_in b.id (last_segment b.path)) at.0 = record {
      known = at.1;
      path = subst (λ (t : List ℕ). IsPathOf t b.id.repo (joined b.id.package (last_segment b.path))) (sym at.2) (path_in_words b.path b.id.repo (joined b.id.package (last_segment b.path)) p.repository);
    } in
    (at.0, subst (λ (m : LabelParts). IsFileOf files m at.0) (label_is b l e) own)

as_read : (files : List File) (rules : Rules) (l : LabelParts) → IsWorkspace files → IsModule (packages_of files) (parsed_of (inputs_of files rules)) l → (f : File) × IsFileOf files l f
as_read files rules l w (IsModule.build b c e) = of_build_file files b l (package_words files b w c) e
as_read files rules l w (IsModule.loaded m i c) =
    let inputs : InputParts = inputs_of files rules in
    let n = loaded_files inputs m l c in
    let r = named files (packages_of files) (package_of m) n.load.line n.load.label l n.names in
    file_is_there files l r.1.file

pub modules_have_files : ModulesHaveFiles
modules_have_files files rules fronts l w are is =
    let read : fronts ≡ parsed_of (inputs_of files rules) = fronts_are (inputs_of files rules) fronts are in
    as_read files rules l w (subst (λ (f : Fronts). IsModule (packages_of files) f l) read is)
