-- Stores and frozen modules as finite maps from cells to contents (Starlark, "Freezing a value").
use Rattle.std.specs.Prelude.{◌≡◌, ℕ, cond, fold, List, [], ◌∷◌, slice_get, Option, Some, None, ◌==◌, nat_lt, refl, is_some}
use Rattle.std.specs.Coded.{Coded, code_by, coded×, coded_ℕ, coded_list}
use Rattle.bq_value_datum.specs.Class.{Class}
use Rattle.bq_value_datum.specs.Datum.{Datum, cell}
use Rattle.bq_value_datum.specs.Codes.{coded_datum}
use Rattle.bq_value_content.specs.Contents.{Contents, items, pairs, rule, coded_contents}
use Rattle.bq_value_content.specs.Kinds.{Kinds, coded_kinds, kind_at, kinds_of, first_holding}

-- the cells of a frozen module, by number, the values of its globals, and the kinds of its rules
pub record FrozenCells : Type 0 where
  pub cells : List Contents
  pub globals : List Datum
  pub kinds : Kinds

-- frozen modules, each with its number, in the order of their numbers
abbrev pub Modules : Type 0
Modules = List (ℕ × FrozenCells)

-- the running module's number, its cells by number, and the frozen modules that it reaches
pub record StoreView : Type 0 where
  pub own : ℕ
  pub cells : List Contents
  pub loaded : Modules

-- a frozen module's number, its cells, and the frozen modules that it reaches
pub record FrozenView : Type 0 where
  pub own : ℕ
  pub cells : FrozenCells
  pub reached : Modules

-- the module of that number
abbrev pub module_at : ℕ → Modules → Option FrozenCells
module_at home [] = None
module_at home (m ∷ ms) = cond (home == m.0) (Some m.1) (module_at home ms)

-- what a cell of a loaded module holds
abbrev pub cell_of : ℕ → Option FrozenCells → Option Contents
cell_of number None = None
cell_of number (Some c) = slice_get c.cells number

-- what a cell holds
unfoldable pub content_at : StoreView → ℕ → ℕ → Option Contents
content_at s home number = cond (home == s.own) (slice_get s.cells number) (cell_of number (module_at home s.loaded))

-- the cell of that number holds a list of these values
abbrev pub HoldsList : StoreView → ℕ → ℕ → List Datum → Type 0
HoldsList s home number xs = content_at s home number ≡ Some (items xs)

-- the cell of that number holds a dict of these pairs
abbrev pub HoldsDict : StoreView → ℕ → ℕ → List (Datum × Datum) → Type 0
HoldsDict s home number ps = content_at s home number ≡ Some (pairs ps)

-- the cell of that number holds a rule with these attributes
abbrev pub HoldsRule : StoreView → ℕ → ℕ → Class → Type 0
HoldsRule s home number class = content_at s home number ≡ Some (rule class)

-- the kind of the rule in a cell of a frozen module; a rule of the running module has none yet
unfoldable pub kind_of : StoreView → ℕ → ℕ → Option (List ℕ)
kind_of s home number = cond (home == s.own) None (elim (module_at home s.loaded) [ Some c ↦ kind_at number c.kinds | None ↦ None ])

-- what a cell of a frozen module holds, or of one that it reaches; `home` is the number of the cell's module
unfoldable pub frozen_at : FrozenView → ℕ → ℕ → Option Contents
frozen_at f home number = cond (home == f.own) (slice_get f.cells.cells number) (cell_of number (module_at home f.reached))

-- the values of the globals of a module: of the frozen one, or of one that it reaches
unfoldable pub globals_at : FrozenView → ℕ → Option (List Datum)
globals_at f home = cond (home == f.own) (Some f.cells.globals) (elim (module_at home f.reached) [ Some c ↦ Some c.globals | None ↦ None ])

-- the running module ends, and its globals have these names and values; after them come the values that it loads
abbrev pub frozen : StoreView → List (List ℕ) → List Datum → FrozenView
frozen s names gs =
    record { own = s.own; cells = record { cells = s.cells; globals = gs; kinds = kinds_of s.own s.cells names gs }; reached = s.loaded }

-- what `kind` has for each rule of the running module is the name of the first of these globals, in order, that is the rule, and none if
-- no global is
abbrev pub KindsAreNames : StoreView → List (List ℕ) → List Datum → (ℕ → Option (List ℕ)) → Type 0
KindsAreNames s names gs kind = (number : ℕ) (class : Class) → HoldsRule s s.own number class → kind number ≡ first_holding (cell s.own number) names gs

-- a module before the first one with a greater number
abbrev pub placed : ℕ × FrozenCells → Modules → Modules
placed m [] = m ∷ []
placed m (n ∷ ms) = cond (nat_lt m.0 n.0) (m ∷ n ∷ ms) (n ∷ placed m ms)

-- a new module takes its place in the order of numbers; one that is there already is not taken again
abbrev pub added : Modules → ℕ × FrozenCells → Modules
added ms m = cond (is_some (module_at m.0 ms)) ms (placed m ms)

-- the store once it has loaded a module: it reaches all that the module brings along, and keeps those that it reached before
abbrev pub loading : StoreView → FrozenView → StoreView
loading s f = record s { loaded = fold added s.loaded ((f.own, f.cells) ∷ f.reached) }

-- a store with these cells of the running module
abbrev pub with_cells : List Contents → StoreView → StoreView
with_cells cs s = record s { cells = cs }

-- a code of a module's frozen cells, which no others have
abbrev pub coded_cells : Coded FrozenCells
coded_cells =
    code_by (List Contents × (List Datum × Kinds)) (coded× (coded_list coded_contents) (coded× (coded_list coded_datum) coded_kinds))
    (λ c. (c.cells, (c.globals, c.kinds))) (λ p. record { cells = p.0; globals = p.1.0; kinds = p.1.1 }) (λ _. refl)

-- a code of each list of frozen modules, which no other list has
abbrev pub coded_modules : Coded Modules
coded_modules = coded_list (coded× coded_ℕ coded_cells)

-- a code of each store, which no other store has
abbrev pub coded_store : Coded StoreView
coded_store =
    code_by (ℕ × (List Contents × Modules)) (coded× coded_ℕ (coded× (coded_list coded_contents) coded_modules))
    (λ s. (s.own, (s.cells, s.loaded))) (λ p. record { own = p.0; cells = p.1.0; loaded = p.1.1 }) (λ _. refl)

-- a code of a frozen module with those that it reaches, which no other has
abbrev pub coded_frozen : Coded FrozenView
coded_frozen =
    code_by (ℕ × (FrozenCells × Modules)) (coded× coded_ℕ (coded× coded_cells coded_modules))
    (λ f. (f.own, (f.cells, f.reached))) (λ p. record { own = p.0; cells = p.1.0; reached = p.1.1 }) (λ _. refl)
