-- What contracts see of the rules that the lines of a schema have declared so far.
use Rattle.std.specs.Prelude.{List, [], ◌∷◌, ◌++◌, Option, Some, None}
use Rattle.bq_value_datum.specs.Class.{Class}
use Rattle.bq_package_schema.specs.declared.draft.Classes.{Classes}

-- the classes of the rules before the last, and that of the last
abbrev pub classes_of : Option Classes → List Class
classes_of None = []
classes_of (Some c) = c.before ++ c.last ∷ []
