-- The objects that the lines are of, as values: what a reader of a line finds (`lines_are_of_objects`).
use Rattle.std.specs.Prelude.{ℕ, pos, List, [], ◌∷◌, ◌++◌, map, codes}
use Rattle.std.specs.List.{zip}
use Rattle.bq_base.specs.Fault.{fault_name}
use Rattle.bq_base.specs.declared.limits.Limits.{Limits}
use Rattle.bq_label.specs.Label.{LabelParts, full_form}
use Rattle.bq_label.specs.Packages.{label_path}
use Rattle.bq_base_texts.specs.declared.fault_line.FaultLine.{FaultLine}
use Rattle.bq_package_values.specs.JsonValue.{Json, string, number, array, object, items_of, Named, fields_of}
use Rattle.bq_package_target.specs.declared.target.Target.{Target}
use Rattle.bq_package_target.specs.declared.target.TargetKind.{TargetKind}
use Rattle.bq_package_target.specs.declared.target.TargetKind.TheVariants as k
use Rattle.bq_package_target.specs.declared.value.GivenAttribute.{GivenAttribute}
use Rattle.bq_package_values.specs.Json.{labels_json}
use Rattle.bq_package_values.specs.Types.{value_json}
use Rattle.bq_query_function.specs.Texts.{kind_text}
use Rattle.bq_resolve_scope.specs.declared.loads.LoadStmt.{LoadStmt}
use Rattle.bq_resolve_scope.specs.declared.loads.LoadedSymbol.{LoadedSymbol}
use Rattle.bq_facts.specs.declared.header.Counts.{Counts}
use Rattle.bq_facts.specs.declared.header.Origin.{Origin}
use Rattle.bq_facts.specs.FaultObject.{fault_code, file_labelled}
use Rattle.bq_facts.specs.Header.{format}
use Rattle.bq_facts.specs.Names.{named_labels}

-- a key, and the full form of a label as a string
abbrev pub labelled : List ℕ → LabelParts → Named
labelled key l = record { key = key; value = string (full_form l) }

-- a key, and a number that is not negative
abbrev pub numbered : List ℕ → ℕ → Named
numbered key n = record { key = key; value = number (pos n) }

-- a key, and a text as a string
abbrev pub written : List ℕ → List ℕ → Named
written key text = record { key = key; value = string text }

-- ---- the first line

-- the six limits of a run, each by its name
abbrev pub limits_named : Limits → List Named
limits_named l =
    numbered (codes "files") l.files ∷ numbered (codes "directories") l.directories ∷ numbered (codes "modules") l.modules
    ∷ numbered (codes "loads") l.edges ∷ numbered (codes "bytes") l.bundle_bytes ∷ numbered (codes "steps") l.steps ∷ []

-- the members of the first line: version of the format and of the program, limits, and how many lines of each kind follow
abbrev pub header_named : Origin → Counts → List Named
header_named o c =
    numbered (codes "facts") format ∷ written (codes "version") o.version
    ∷ record { key = codes "limits"; value = object (fields_of (limits_named o.limits)) }
    ∷ numbered (codes "targets") c.targets ∷ numbered (codes "modules") c.modules ∷ numbered (codes "faults") c.faults ∷ []

-- the object of the first line
abbrev pub header_value : Origin → Counts → Json
header_value o c = object (fields_of (header_named o c))

-- ---- targets

-- an attribute's name as the key, and its value
abbrev pub attribute_named : GivenAttribute → Named
attribute_named a = record { key = a.name; value = value_json a.value }

-- the object of the attributes, in their order
abbrev pub attributes_value : List GivenAttribute → Json
attributes_value given = object (fields_of (map attribute_named given))

-- the line of the statement that declares the target, its attributes, the labels that it names, and what it depends on
abbrev pub declaration : Target → List LabelParts → List Named
declaration t deps =
    numbered (codes "line") t.line
    ∷ record { key = codes "attributes"; value = attributes_value t.attributes }
    ∷ record { key = codes "names"; value = labels_json (named_labels t) }
    ∷ record { key = codes "deps"; value = labels_json deps } ∷ []

-- a source file is declared nowhere
abbrev pub declaration_of : TargetKind → Target → List LabelParts → List Named
declaration_of k.Source t deps = []
declaration_of (k.Rule name class) t deps = declaration t deps
declaration_of (k.Generated rule) t deps = declaration t deps
declaration_of k.Group t deps = declaration t deps

-- the members of a target, with the path of its file and the labels of what it depends on
abbrev pub target_named : Target → List ℕ → List LabelParts → List Named
target_named t file deps = labelled (codes "target") t.label ∷ written (codes "kind") (kind_text t.kind) ∷ written (codes "file") file ∷ declaration_of t.kind t deps

-- the object of a target's line
abbrev pub target_value : Target → List ℕ → List LabelParts → Json
target_value t file deps = object (fields_of (target_named t file deps))

-- ---- modules

-- the name that is bound stands before that of the symbol in the other file
abbrev pub symbol_named : LoadedSymbol → Named
symbol_named c = written c.local c.symbol

-- a load: the label and the path of the file that it names, its line from 1, and its symbols
abbrev pub load_named : LoadStmt × LabelParts → List Named
load_named p =
    labelled (codes "label") p.1 ∷ written (codes "file") (label_path p.1) ∷ numbered (codes "line") p.0.line
    ∷ record { key = codes "symbols"; value = object (fields_of (map symbol_named p.0.clauses)) } ∷ []

-- the object of a load beside the label of the file that it names
abbrev pub load_value : LoadStmt × LabelParts → Json
load_value p = object (fields_of (load_named p))

-- the members of a module: its label, the path of its file, and its loads, each beside the label of the file that it names
abbrev pub module_named : LabelParts → List LoadStmt → List LabelParts → List Named
module_named l loads files = labelled (codes "module") l ∷ written (codes "file") (label_path l) ∷ record { key = codes "loads"; value = array (items_of load_value (zip loads files)) } ∷ []

-- the object of a module's line
abbrev pub module_value : LabelParts → List LoadStmt → List LabelParts → Json
module_value l loads files = object (fields_of (module_named l loads files))

-- ---- faults

-- the members of a fault line: number and name of the fault, label, path of the file, line from 1, and detail
abbrev pub fault_named : FaultLine → List Named
fault_named l =
    written (codes "fault") (fault_code l) ∷ written (codes "name") (fault_name l.kind) ∷ written (codes "label") l.label
    ∷ written (codes "file") (file_labelled l.label) ∷ numbered (codes "line") l.line ∷ written (codes "detail") l.detail ∷ []

-- the object of a fault's line
abbrev pub fault_value : FaultLine → Json
fault_value l = object (fields_of (fault_named l))
