-- Words of the laws.
use Rattle.std.specs.Prelude.{◌≡◌, ◌≢◌, ◌≤◌, ◌+◌, ℕ, List, [], ◌∷◌, length, slice_get, true, false, Option, Some, None}
use Rattle.bq_predeclared.specs.declared.predeclared.Predeclared.{Predeclared}
use Rattle.bq_parse_grammar.specs.declared.tree.Referent.{Referent}
use Rattle.bq_parse_grammar.specs.declared.tree.Referent.TheVariants as b
use Rattle.bq_resolve_scope.specs.Universe.{universe_has}
use Rattle.bq_resolve_scope.specs.Names.{Name, has, place_among}
use Rattle.bq_resolve_scope.specs.Scope.{BlockParts, FileParts, slot_in, use_of}

-- What a use of the name stands for: "a use belongs to the innermost enclosing block whose set holds the name", else to what the file
-- binds, else to what its loads bind, else to what every file of its kind has.
pub data StandsFor (file : FileParts) (name : Name) : List BlockParts → Option Referent → Type 0 where
  held : {block : BlockParts} {blocks : List BlockParts} {i : ℕ} → place_among name block.names ≡ Some i → StandsFor file name (block ∷ blocks) (Some (b.Local (block.base + i)))
  outside : {block : BlockParts} {blocks : List BlockParts} {x : Option Referent} → has block.names name ≡ false → StandsFor file name blocks x → StandsFor file name (block ∷ blocks) x
  of_file : {k : ℕ} → place_among name file.globals ≡ Some k → StandsFor file name [] (Some (b.Global k))
  of_load : {k : ℕ} → has file.globals name ≡ false → place_among name file.loaded ≡ Some k → StandsFor file name [] (Some (b.Loaded k))
  of_all : {x : Predeclared} → has file.globals name ≡ false → has file.loaded name ≡ false → universe_has file.universe name ≡ Some x
      → StandsFor file name [] (Some (b.Predeclared x))
  of_none : has file.globals name ≡ false → has file.loaded name ≡ false → universe_has file.universe name ≡ None → StandsFor file name [] None

-- a use stands for one thing exactly, the one that `use_of` gives; None is a name that is unknown there
abbrev pub EachUseStandsForOne : Type 0
EachUseStandsForOne = (file : FileParts) (blocks : List BlockParts) (name : Name) (x : Option Referent)
    → (StandsFor file name blocks x → use_of file blocks name ≡ x) × (use_of file blocks name ≡ x → StandsFor file name blocks x)

-- A name that the block holds is Local, whatever else encloses it.
abbrev pub HeldNamesAreLocal : Type 0
HeldNamesAreLocal = (file : FileParts) (block : BlockParts) (blocks : List BlockParts) (name : Name) → has block.names name ≡ true
    → (i : ℕ) × (use_of file (block ∷ blocks) name ≡ Some (b.Local (block.base + i))) × (slice_get block.names i ≡ Some name)

-- Two uses share a slot only where they share name and block: names of one block ..
abbrev pub NamesHaveSlots : Type 0
NamesHaveSlots = (block : BlockParts) (name other : Name) (slot : ℕ) → slot_in block name ≡ Some slot → slot_in block other ≡ Some slot → name ≡ other

-- .. and names of two, the second of which was opened after the first
abbrev pub BlocksHaveSlots : Type 0
BlocksHaveSlots = (block later : BlockParts) (name other : Name) (slot : ℕ) → block.base + length block.names ≤ later.base
    → slot_in block name ≡ Some slot → slot_in later other ≢ Some slot
