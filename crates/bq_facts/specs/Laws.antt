-- What `deps` has, in the words of queries; what `names` has; where files are; and the objects that lines are of.
use Rattle.std.specs.Prelude.{◌≡◌, ◌≢◌, ◌↔◌, ℕ, List, [], ◌∷◌, ◌++◌}
use Rattle.std.specs.List.{All, Contains}
use Rattle.std.specs.List.Sorted.{IsStrictlySortedBy}
use Rattle.bq_query_graph.specs.Paths.{row, DepsWithin}
use Rattle.bq_label.specs.Label.{IsLabel, LabelParts, full_form}
use Rattle.bq_label.specs.Packages.{label_path}
use Rattle.bq_base_texts.specs.declared.fault_line.FaultLine.{FaultLine}
use Rattle.bq_package_values.specs.JsonValue.{value_text}
use Rattle.bq_package_target.specs.declared.target.Target.{Target}
use Rattle.bq_package_target.specs.Target.{dependencies}
use Rattle.bq_resolve_scope.specs.declared.loads.LoadStmt.{LoadStmt}
use Rattle.bq_facts.specs.declared.header.Counts.{Counts}
use Rattle.bq_facts.specs.declared.header.Origin.{Origin}
use Rattle.bq_facts.specs.Deps.{AreDirect}
use Rattle.bq_facts.specs.FaultObject.{fault_object, file_labelled}
use Rattle.bq_facts.specs.Header.{header_line}
use Rattle.bq_facts.specs.ModuleLine.{module_line}
use Rattle.bq_facts.specs.Names.{form_cmp, named_labels}
use Rattle.bq_facts.specs.Objects.{fault_value, header_value, module_value, target_value}
use Rattle.bq_facts.specs.TargetLine.{target_line}

-- the direct dependencies of x are deps(x, 1) - x
abbrev pub DirectAreDeps : List (List ℕ) → ℕ → List ℕ → Type 0
DirectAreDeps g x ds = AreDirect (row g x) x ds → (y : ℕ) → Contains ds y ↔ (DepsWithin g (λ a. a ≡ x) 1 y × (y ≢ x))

-- what a target names is what it depends on
abbrev pub NamesAreDependencies : Type 0
NamesAreDependencies = (t : Target) (l : LabelParts) → Contains (named_labels t) l ↔ Contains (dependencies t) l

-- in the order of the bytes of full forms, each once
abbrev pub NamesAscend : Type 0
NamesAscend = (t : Target) → All IsLabel (dependencies t) → IsStrictlySortedBy form_cmp (named_labels t)

-- a label in full says where its file is
abbrev pub PathsOfLabels : Type 0
PathsOfLabels = (l : LabelParts) → IsLabel l → file_labelled (full_form l) ≡ label_path l

-- each line is the text of its object and a newline, and the text of a value reads as that value alone (bq_package_values)
abbrev pub HeadersAreObjects : Type 0
HeadersAreObjects = (o : Origin) (c : Counts) → header_line o c ≡ value_text (header_value o c) ++ 10 ∷ []

-- the line of a target is the text of its object and a newline
abbrev pub TargetLinesAreObjects : Type 0
TargetLinesAreObjects = (t : Target) (file : List ℕ) (deps : List LabelParts) → target_line t file deps ≡ value_text (target_value t file deps) ++ 10 ∷ []

-- the line of a module is the text of its object and a newline
abbrev pub ModuleLinesAreObjects : Type 0
ModuleLinesAreObjects = (l : LabelParts) (loads : List LoadStmt) (files : List LabelParts) → module_line l loads files ≡ value_text (module_value l loads files) ++ 10 ∷ []

-- the line of a fault is the text of its object and a newline
abbrev pub FaultLinesAreObjects : Type 0
FaultLinesAreObjects = (l : FaultLine) → fault_object l ≡ value_text (fault_value l) ++ 10 ∷ []
