-- The law of slots: in one function two uses share a slot exactly where they share name and block.
use Rattle.std.specs.Prelude.{◌≡◌, ◌↔◌, ℕ, ◌<◌, List, [], ◌∷◌, ◌++◌, length, map, Ok, slice_get}
use Rattle.bq_parse_grammar.specs.declared.tree.Branch.{Branch}
use Rattle.bq_parse_grammar.specs.declared.tree.Parameter.{Parameter}
use Rattle.bq_parse_grammar.specs.declared.tree.Stmt.{Stmt, out-Stmt}
use Rattle.bq_parse_grammar.specs.declared.tree.Stmt.TheOpen.{Stmt-F}
use Rattle.bq_parse_grammar.specs.declared.tree.TopLevel.{TopLevel}
use Rattle.bq_resolve_scope.specs.declared.file.Function.{Function}
use Rattle.bq_resolve_scope.specs.declared.file.ResolvedFile.{ResolvedFile}
use Rattle.bq_resolve_scope.specs.Files.{resolved}
use Rattle.bq_resolve_scope.specs.Names.{function_names}
use Rattle.bq_resolve_scope.specs.Universe.{UniverseParts}
use Rattle.bq_resolve_laws.specs.Resolution.{InOrder}
use Rattle.bq_resolve_laws.specs.Slots.Slots.{all, stmt_slots}
use Rattle.bq_resolve_laws.specs.Slots.Uses.{Use, body_uses}

-- there is a slot for each use, and two of them are one slot exactly where the two uses are one: of one name, of one block
pub record AreShared (slots : List ℕ) (uses : List Use) : Type 0 where
  pub count : length slots ≡ length uses
  pub share : (i j : ℕ) → i < length uses → j < length uses → (slice_get slots i ≡ slice_get slots j) ↔ (slice_get uses i ≡ slice_get uses j)

-- a `def` of a file
pub record WrittenDef : Type 0 where
  pub parameters : List Parameter
  pub body : List Stmt

-- a statement's parameters and body where it is a `def`; nothing for any other
abbrev pub def_by : Stmt-F Stmt Branch → List WrittenDef
def_by (Stmt-F.Def n ps body) = record { parameters = ps; body = body } ∷ []
def_by (Stmt-F.Simple xs) = []
def_by (Stmt-F.If bs zs) = []
def_by (Stmt-F.For t x body) = []

-- those of these statements, in their order
abbrev pub defs_of : List TopLevel → List WrittenDef
defs_of [] = []
defs_of (t ∷ ts) = def_by (out-Stmt t.statement) ++ defs_of ts

-- the function that a `def` resolves to
abbrev pub SharesSlots : WrittenDef → Function → Type 0
SharesSlots d f = AreShared (all (map stmt_slots f.body)) (body_uses (function_names d.parameters d.body) d.body)

-- the functions of a file that resolves are, in order, those of its `def`s, each with its slots shared so
abbrev pub SlotsAreShared : Type 0
SlotsAreShared = (universe : UniverseParts) (ts : List TopLevel) (r : ResolvedFile) → resolved universe ts ≡ Ok r → InOrder SharesSlots (defs_of ts) r.functions
