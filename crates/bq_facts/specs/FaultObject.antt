-- The line of a fault.
use Rattle.std.specs.Prelude.{ℕ, List, [], ◌∷◌, ◌++◌, Option, Some, None, codes}
use Rattle.std.specs.Fmt.{decimal}
use Rattle.bq_base.specs.Fault.{fault_number, fault_name}
use Rattle.bq_label.specs.Label.{LabelParts, package_at}
use Rattle.bq_label.specs.Packages.{label_path}
use Rattle.bq_label.specs.Reading.{label_of}
use Rattle.bq_base_texts.specs.declared.fault_line.FaultLine.{FaultLine}
use Rattle.bq_package_values.specs.JsonParts.{Member, json_object}
use Rattle.bq_facts.specs.Members.{string_member}

-- the path in the workspace that the label names; empty where there is no label
abbrev pub path_by : Option LabelParts → List ℕ
path_by None = []
path_by (Some l) = label_path l

-- the path of the file with this label, which is in full
unfoldable pub file_labelled : List ℕ → List ℕ
file_labelled label = path_by (label_of (package_at [] []) label)

-- `F74`
abbrev pub fault_code : FaultLine → List ℕ
fault_code l = codes "F" ++ decimal (fault_number l.kind)

-- which fault it is: its number (`F74`), its name, and the label of its file
abbrev pub what_members : FaultLine → List Member
what_members l = string_member (codes "fault") (fault_code l) ∷ string_member (codes "name") (fault_name l.kind) ∷ string_member (codes "label") l.label ∷ []

-- where it is: the path of the label's file, the line, and the detail
abbrev pub where_members : FaultLine → List Member
where_members l =
    string_member (codes "file") (file_labelled l.label) ∷ record { key = codes "line"; value = decimal l.line } ∷ string_member (codes "detail") l.detail ∷ []

-- the object of a fault line, and a newline
unfoldable pub fault_object : FaultLine → List ℕ
fault_object l = json_object (what_members l ++ where_members l) ++ 10 ∷ []
