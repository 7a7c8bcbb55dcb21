-- Parts of definitions, as words that proofs name.
use Rattle.std.specs.Prelude.{List, None, Option, Some, ℕ, ◌∷◌}
use Rattle.bq_value_content.specs.Kinds.{kind_at}
use Rattle.bq_value_datum.specs.Datum.{Datum}
use Rattle.bq_value.specs.Cells.{FrozenCells, FrozenView, Modules, StoreView}

-- the kind of a rule, by its cell in a loaded module
abbrev pub kind_in : ℕ → Option FrozenCells → Option (List ℕ)
kind_in number o = elim o [ Some c ↦ kind_at number c.kinds | None ↦ None ]

-- the globals of a loaded module
abbrev pub globals_of : Option FrozenCells → Option (List Datum)
globals_of o = elim o [ Some c ↦ Some c.globals | None ↦ None ]

-- all modules that a frozen one brings along, itself first
abbrev pub brought : FrozenView → Modules
brought f = (f.own, f.cells) ∷ f.reached

-- a store with these loaded modules
abbrev pub with_loaded : Modules → StoreView → StoreView
with_loaded ms s = record s { loaded = ms }
