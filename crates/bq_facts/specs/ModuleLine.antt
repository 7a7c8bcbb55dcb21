-- The line of a module (`--facts`): its loads in the order in which they are written, each with the file that it names, and for each name that
-- it binds the name of the symbol there.
use Rattle.std.specs.Prelude.{◌==◌, ℕ, List, [], ◌∷◌, ◌++◌, map, codes, if◌then◌else◌}
use Rattle.std.specs.Fmt.{decimal}
use Rattle.std.specs.List.{zip}
use Rattle.bq_package_values.specs.JsonParts.{Member, comma, json_array, json_object}
use Rattle.bq_label.specs.Label.{LabelParts, full_form}
use Rattle.bq_label.specs.Packages.{label_path}
use Rattle.bq_resolve_scope.specs.declared.loads.LoadStmt.{LoadStmt}
use Rattle.bq_resolve_scope.specs.declared.loads.LoadedSymbol.{LoadedSymbol}
use Rattle.bq_facts.specs.Members.{string_member}

-- the name that is bound, and the symbol of the other file
abbrev pub symbol_member : LoadedSymbol → Member
symbol_member c = string_member c.local c.symbol

-- the text of the object of a load's symbols, in the order in which they are written
abbrev pub json_symbols : List LoadedSymbol → List ℕ
json_symbols cs = json_object (map symbol_member cs)

-- a file by its label and its path
abbrev pub file_members : List ℕ → LabelParts → List Member
file_members key l = string_member key (full_form l) ∷ string_member (codes "file") (label_path l) ∷ []

-- the line of a load, from 1, and its symbols
abbrev pub clause_members : LoadStmt → List Member
clause_members s = record { key = codes "line"; value = decimal s.line } ∷ record { key = codes "symbols"; value = json_symbols s.clauses } ∷ []

-- a load beside the label of the file that it names
unfoldable pub load_object : LoadStmt × LabelParts → List ℕ
load_object p = json_object (file_members (codes "label") p.1 ++ clause_members p.0)

-- what is before the item of this place in a list
abbrev pub comma_before : ℕ → List ℕ
comma_before n = if n == 0 then [] else comma

-- loads, and the labels of the files that they name
abbrev pub json_loads : List LoadStmt → List LabelParts → List ℕ
json_loads loads files = json_array load_object (zip loads files)

-- the member `loads`: an array with an object for each load
abbrev pub load_members : List LoadStmt → List LabelParts → List Member
load_members loads files = record { key = codes "loads"; value = json_loads loads files } ∷ []

-- the object of the module of this label, with its loads and the labels of the files that they name, and a newline
unfoldable pub module_line : LabelParts → List LoadStmt → List LabelParts → List ℕ
module_line l loads files = json_object (file_members (codes "module") l ++ load_members loads files) ++ 10 ∷ []
