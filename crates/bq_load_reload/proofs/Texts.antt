-- What files read as whose texts are what they were, where the schema is, and the paths are but for some of files that are no modules.
use Rattle.std.proofs.Common.{◌≡◌, ◌∙◌, true, false, ℕ, ◌++◌, ◌||◌, Bool, List, [], ◌∷◌, Option, Some, None, Ok, codes, nat_eq, append_assoc, option_map, slice_get, refl, sym, ap}
use Rattle.std.specs.Prelude.{bytes_eq}
use Rattle.std.specs.List.{ends_with}
use Rattle.std.specs.Cmp.Lexicographic.{bytes_decides}
use Rattle.std.proofs.lemmas.Option.{slice_get-map}
use Rattle.bq_label.specs.declared.packages.BuildFile.{BuildFile}
use Rattle.bq_label.specs.declared.workspace.File.{File}
use Rattle.bq_label.specs.Label.{LabelParts}
use Rattle.bq_label.specs.Packages.{label_file, packages_of, joined, repository_root, split_repository}
use Rattle.bq_label.specs.Workspace.{paths_of}
use Rattle.bq_label.proofs.Cases.{is_at}
use Rattle.bq_label.proofs.Repositories.{in_repository}
use Rattle.bq_package_schema.specs.Schema.{Rules}
use Rattle.bq_load_front.specs.Front.{front_of}
use Rattle.bq_load_front.proofs.Tests.{stem_of, has_stem}
use Rattle.bq_load_discover.specs.declared.modules.Module.{Module}
use Rattle.bq_load_discover.specs.LoadGraph.{GraphParts, IsReadGraph, inputs_of}
use Rattle.bq_load_discover.specs.Module.{module_of}
use Rattle.bq_load_discover.specs.Schema.{schema_in}
use Rattle.bq_load_laws.specs.FileReadings.{AreLoadedAlike, text_of}
use Rattle.bq_load_laws.proofs.Fronts.{is_named, there_by_paths, fronts_are_by_text}
use Rattle.bq_load_changes.specs.Paths.{may_be_module}
use Rattle.bq_load_changes.specs.Same.{HasSameFrame, same_content}
use Rattle.bq_load_changes.proofs.Covered.{same_any, same_packages}
use Rattle.bq_load_changes.proofs.Frames.{contents_same, second, same_rules}

-- the module at a place is what the file of the label at that place reads as
pub read_at : (files : List File) (rules : Rules) (graph : GraphParts) → IsReadGraph (inputs_of files rules) graph → (m : ℕ) (l : LabelParts) → slice_get graph.labels m ≡ Some l
    → slice_get graph.modules m ≡ Some (module_of (inputs_of files rules) l)
read_at files rules graph of m l at =
    ap (λ (ms : List Module). slice_get ms m) of.read ∙ (slice_get-map (module_of (inputs_of files rules)) graph.labels m ∙ ap (option_map (module_of (inputs_of files rules))) at)

-- ---- which labels of .bzl files name files

-- the name of a label is the end of its path
ends_so : (directory root name stem : List ℕ) → name ≡ stem ++ codes ".bzl" → (front : List ℕ) × (root ++ joined directory name ≡ front ++ codes ".bzl")
ends_so [] root name stem e = (root ++ stem, ap (λ (t : List ℕ). root ++ t) e ∙ sym (append_assoc root stem (codes ".bzl")))
ends_so (b ∷ bs) root name stem e =
    let front : List ℕ = b ∷ bs ++ 47 ∷ stem in
    let whole : b ∷ bs ++ 47 ∷ name ≡ front ++ codes ".bzl" = ap (λ (t : List ℕ). b ∷ bs ++ 47 ∷ t) e ∙ sym (append_assoc (b ∷ bs) (47 ∷ stem) (codes ".bzl")) in
    (root ++ front, ap (λ (t : List ℕ). root ++ t) whole ∙ sym (append_assoc root front (codes ".bzl")))

first_true : (a b : Bool) → a ≡ true → (a || b) ≡ true
first_true true b h = refl
first_true false b h = absurd (cc)

bzl_may_be : (path stem : List ℕ) → path ≡ stem ++ codes ".bzl" → may_be_module path ≡ true
unfolding may_be_module
bzl_may_be path stem e = first_true (ends_with nat_eq path (codes ".bzl")) (ends_with nat_eq path (codes "BUILD") || ends_with nat_eq path (codes "BUILD.bazel")) (has_stem path stem e)

named_so : (l : LabelParts) → ends_with nat_eq l.name (codes ".bzl") ≡ true → (path : List ℕ) (o : Option (List ℕ × List ℕ)) → split_repository path ≡ o → is_at l.repo (joined l.package l.name) o ≡ true → may_be_module path ≡ true
named_so l bzl path None e h = absurd (cc)
named_so l bzl path (Some p) e h =
    let rest : p.1 ≡ joined l.package l.name = (bytes_decides p.1 (joined l.package l.name)).0 (second (bytes_eq p.0 l.repo) (bytes_eq p.1 (joined l.package l.name)) h) in
    let stem = stem_of l.name bzl in
    let ends = ends_so l.package (repository_root p.0) l.name stem.0 stem.1 in
    let whole : path ≡ repository_root p.0 ++ p.1 = (in_repository path p.0 p.1 e).whole in
    bzl_may_be path ends.0 (whole ∙ (ap (λ (t : List ℕ). repository_root p.0 ++ t) rest ∙ ends.1))

not_so : (b : Bool) → (b ≡ true → ⊥) → b ≡ false
not_so true h = absurd (h refl)
not_so false h = refl

-- a label of a .bzl file names no file that is no module
named_is_module : (l : LabelParts) → ends_with nat_eq l.name (codes ".bzl") ≡ true → (path : List ℕ) → may_be_module path ≡ false → is_named l path ≡ false
named_is_module l bzl path plain =
    not_so (is_named l path) (λ h. let is : may_be_module path ≡ true = named_so l bzl path (split_repository path) refl h in let two : true ≡ false = sym is ∙ plain in absurd (cc))

-- ---- what is the same

module _ (before after : List File) (touched : List BuildFile) (was rules : Rules) (had : schema_in before ≡ Ok was) (schema : schema_in after ≡ Ok rules) (frame : HasSameFrame before after touched) where
  pub the_rules : rules ≡ was
  the_rules = same_rules before after touched was rules frame had schema

  pub the_packages : packages_of after ≡ packages_of before
  the_packages = sym (same_packages (packages_of before) touched before after frame.paths)

  loads_alike : AreLoadedAlike after before
  loads_alike l bzl =
      there_by_paths l after
      ∙ (sym (same_any (packages_of before) touched (paths_of before) (paths_of after) frame.paths (is_named l) (named_is_module l bzl)) ∙ sym (there_by_paths l before))

  fronts_same : (l : LabelParts) → text_of before l ≡ text_of after l → front_of (inputs_of after rules) l ≡ front_of (inputs_of before was) l
  fronts_same l text = fronts_are_by_text (inputs_of after rules) (inputs_of before was) (ap (λ (r : Rules). r.names) the_rules) the_packages loads_alike l (sym text)

  pub modules_same : (l : LabelParts) → text_of before l ≡ text_of after l → module_of (inputs_of after rules) l ≡ module_of (inputs_of before was) l
  modules_same l text = let front = fronts_same l text in λ i. record { label = l; front = front i }

pub text_same : (before after : List File) (l : LabelParts) → same_content (label_file before l) (label_file after l) ≡ true → text_of before l ≡ text_of after l
text_same before after l h = contents_same (label_file before l) (label_file after l) h
