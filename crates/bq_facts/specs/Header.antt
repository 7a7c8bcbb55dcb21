-- The first line of facts (`--facts`): the version of the format, that of the program, its limits, and how many lines of each kind follow.
use Rattle.std.specs.Prelude.{ℕ, List, [], ◌∷◌, ◌++◌, codes}
use Rattle.bq_base.specs.declared.limits.Limits.{Limits}
use Rattle.bq_package_values.specs.JsonParts.{Member, json_object}
use Rattle.bq_facts.specs.declared.header.Counts.{Counts}
use Rattle.bq_facts.specs.declared.header.Origin.{Origin}
use Rattle.bq_facts.specs.Members.{number_member, string_member}

-- the version of the format
abbrev pub format : ℕ
format = 2

-- the most files, directories and modules of a workspace
abbrev pub workspace_limits : Limits → List Member
workspace_limits l =
    number_member (codes "files") l.files ∷ number_member (codes "directories") l.directories ∷ number_member (codes "modules") l.modules ∷ []

-- the most loads (edges of the load graph), bytes of a bundle, and steps of an evaluation
abbrev pub further_limits : Limits → List Member
further_limits l = number_member (codes "loads") l.edges ∷ number_member (codes "bytes") l.bundle_bytes ∷ number_member (codes "steps") l.steps ∷ []

-- the text of the object of all six limits
unfoldable pub json_limits : Limits → List ℕ
json_limits l = json_object (workspace_limits l ++ further_limits l)

-- by which program the facts were made
abbrev pub origin_members : Origin → List Member
origin_members o =
    number_member (codes "facts") format ∷ string_member (codes "version") o.version ∷ record { key = codes "limits"; value = json_limits o.limits } ∷ []

-- how many lines of targets, of modules and of faults follow
abbrev pub count_members : Counts → List Member
count_members c = number_member (codes "targets") c.targets ∷ number_member (codes "modules") c.modules ∷ number_member (codes "faults") c.faults ∷ []

-- the object, and a newline
unfoldable pub header_line : Origin → Counts → List ℕ
header_line o c = json_object (origin_members o ++ count_members c) ++ 10 ∷ []
