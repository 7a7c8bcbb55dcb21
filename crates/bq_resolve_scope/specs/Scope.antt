-- What a name stands for: "a use belongs to the innermost enclosing block whose set holds the name" (Starlark specification, "Name
-- binding and variables"), else to the file, else to the names that every file has.
use Rattle.std.specs.Prelude.{ℕ, ◌+◌, List, [], ◌∷◌, Option, Some, None}
use Rattle.std.specs.Option.{option_map}
use Rattle.bq_parse_grammar.specs.declared.tree.Referent.{Referent}
use Rattle.bq_parse_grammar.specs.declared.tree.Referent.TheVariants as b
use Rattle.bq_resolve_scope.specs.Universe.{UniverseParts, universe_has}
use Rattle.bq_resolve_scope.specs.Names.{Name, place_among}

-- A block: its names in order of first binding, which have the slots from `base` on.
pub record BlockParts : Type 0 where
  pub base : ℕ
  pub names : List Name

-- A file's names: those that every file of its kind has, those that it binds, and those that its loads bind.
pub record FileParts : Type 0 where
  pub universe : UniverseParts
  pub globals : List Name
  pub loaded : List Name

-- the first of two, if there is one, or else the second
abbrev pub or_else : {A : Type 0} → Option A → Option A → Option A
or_else None y = y
or_else (Some x) y = Some x

-- the slot of a name in a block that holds it
unfoldable pub slot_in : BlockParts → Name → Option ℕ
slot_in block name = option_map (λ i. block.base + i) (place_among name block.names)

-- the slot of a name in the innermost block that holds it; the blocks stand innermost first
unfoldable pub slot_of : List BlockParts → Name → Option ℕ
slot_of [] name = None
slot_of (block ∷ blocks) name = or_else (slot_in block name) (slot_of blocks name)

-- A file's own names take precedence over loaded ones: in a BUILD file a loaded name that is bound again is one global.
unfoldable pub file_has : FileParts → Name → Option Referent
file_has file name =
    or_else (option_map b.Global (place_among name file.globals))
    (or_else (option_map b.Loaded (place_among name file.loaded)) (option_map b.Predeclared (universe_has file.universe name)))

-- what a use of the name stands for; none: no such name is known
unfoldable pub use_of : FileParts → List BlockParts → Name → Option Referent
use_of file blocks name = or_else (option_map b.Local (slot_of blocks name)) (file_has file name)
