-- The line of a target (`--facts`). A source file has its own path; any other target has the path of its package's BUILD file, the line of the
-- top-level statement that declares it, its attributes, the labels that it names and what it depends on.
use Rattle.std.specs.Prelude.{ℕ, List, [], ◌∷◌, ◌++◌, Option, Some, None, codes, if◌then◌else◌}
use Rattle.std.specs.Fmt.{decimal}
use Rattle.bq_label.specs.declared.packages.BuildFile.{BuildFile}
use Rattle.bq_label.specs.Label.{LabelParts, full_form, package_of}
use Rattle.bq_label.specs.Packages.{label_path, package_named}
use Rattle.bq_package_values.specs.JsonParts.{Member, json_object}
use Rattle.bq_package_target.specs.declared.target.TargetKind.{TargetKind}
use Rattle.bq_package_target.specs.declared.target.TargetKind.TheVariants as k
use Rattle.bq_package_target.specs.declared.target.Target.{Target}
use Rattle.bq_package_target.specs.Target.{is_source}
use Rattle.bq_package_values.specs.Json.{json_labels}
use Rattle.bq_query_function.specs.Texts.{kind_text}
use Rattle.bq_facts.specs.Attributes.{json_attributes}
use Rattle.bq_facts.specs.Members.{string_member}
use Rattle.bq_facts.specs.Names.{named_labels}

-- every target's package has a BUILD file
abbrev pub build_path : Option BuildFile → List ℕ
build_path None = []
build_path (Some b) = b.path

-- the path of a target's file in a workspace with these packages
abbrev pub file_of : List BuildFile → Target → List ℕ
file_of packages t = if is_source t.kind then label_path t.label else build_path (package_named packages (package_of t.label))

-- the members that every target has
abbrev pub named : Target → List ℕ → List Member
named t file = string_member (codes "target") (full_form t.label) ∷ string_member (codes "kind") (kind_text t.kind) ∷ string_member (codes "file") file ∷ []

-- the member `names`: the labels of what the target's declaration names, in order, each once
abbrev pub names_member : Target → Member
names_member t = record { key = codes "names"; value = json_labels (named_labels t) }

-- the members that no source file has: line of the declaration, from 1, attributes, `names`, and `deps` by these labels
abbrev pub declared_members : Target → List LabelParts → List Member
declared_members t deps =
    record { key = codes "line"; value = decimal t.line }
    ∷ record { key = codes "attributes"; value = json_attributes t.attributes }
    ∷ names_member t
    ∷ record { key = codes "deps"; value = json_labels deps } ∷ []

-- those of a target that a call declares
abbrev pub declared_by : TargetKind → Target → List LabelParts → List Member
declared_by k.Source t deps = []
declared_by (k.Rule name class) t deps = declared_members t deps
declared_by (k.Generated rule) t deps = declared_members t deps
declared_by k.Group t deps = declared_members t deps

-- the object of a target, by the path of its file and the labels of what it depends on, and a newline
unfoldable pub target_line : Target → List ℕ → List LabelParts → List ℕ
target_line t file deps = json_object (named t file ++ declared_by t.kind t deps) ++ 10 ∷ []
