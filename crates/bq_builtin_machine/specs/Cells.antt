-- Lists, dicts and rules as a machine has them (Starlark, "Freezing a value", "Lists", "Dictionaries").
use Rattle.std.specs.Prelude.{ℕ, Bool, cond, ◌&&◌, List, [], ◌∷◌, ◌++◌, length, Option, Some, None, Result, Ok, Err, ◌==◌}
use Rattle.std.specs.List.{list_any}
use Rattle.bq_base.specs.declared.fault.EvalFault.{EvalFault}
use Rattle.bq_base.specs.declared.fault.EvalFault.TheVariants.{WrongType, Frozen, Iterating}
use Rattle.bq_value.specs.Datum.{Datum, cell}
use Rattle.bq_value.specs.Contents.{Contents, items, pairs}
use Rattle.bq_value.specs.Cells.{StoreView, content_at, with_cells}
use Rattle.bq_value.specs.Lending.{with_cell}
use Rattle.bq_value.specs.Cell.{Cell}
use Rattle.bq_builtin_machine.specs.State.{State}
use Rattle.bq_builtin_machine.specs.Action.{Action, done, ◌>>=◌, ◌>>◌, pure, stop, given, look, change}

-- the state in which the running module's cell of that number holds this
abbrev pub with_content : State → ℕ → Contents → State
with_content s number c = record s { store = with_cell s.store number c }

-- a new cell of the running module
unfoldable pub new_content : Contents → Action State Datum
new_content c s = done (cell s.store.own (length s.store.cells)) (record s { store = with_cells (s.store.cells ++ c ∷ []) s.store })

-- a value of the type that is needed, or the fault that it has another
abbrev pub or_wrong : {A : Type 0} → Option A → Result A EvalFault
or_wrong (Some a) = Ok a
or_wrong None = Err WrongType

-- what a cell holds; a cell that the store doesn't know, which no program has, is of no type (F40)
unfoldable pub content : ℕ → ℕ → Action State Contents
content home number = look (λ s. or_wrong (content_at s.store home number))

-- whether a walk over the cell goes on
abbrev pub is_walked : ℕ → ℕ → List Cell → Bool
is_walked home number walks = list_any (λ c. (c.module == home) && (c.number == number)) walks

-- a list or dict of another module is frozen (F47), and one that is being walked stays as it is (F48)
unfoldable pub may_change : ℕ → ℕ → Action State (Unit {0})
may_change home number s = cond (home == s.store.own) (cond (is_walked home number s.walks) (stop Iterating s) (done tt s)) (stop Frozen s)

-- a list or dict that may be changed
unfoldable pub can_change : ℕ → ℕ → Action State (Unit {0})
can_change home number = content home number >> may_change home number

-- a cell of the running module holds something else from now on
abbrev pub put_content : ℕ → Contents → Action State (Unit {0})
put_content number c = change (λ s. with_content s number c)

-- A change of a list or dict that may be changed: from what it holds to what it holds then and an answer, or a fault.
abbrev pub Change : Type 0 → Type 0
Change A = Contents → Result (A × Contents) EvalFault

-- changes what a cell holds: it has to be one that may be changed, then of the right type
unfoldable pub changing : {A : Type 0} → ℕ → ℕ → Change A → Action State A
changing home number f = can_change home number >> (content home number >>= λ c. given (f c) >>= λ r. put_content number r.1 >> pure r.0)

-- new lists and dicts
unfoldable pub new_list : List Datum → Action State Datum
new_list xs = new_content (items xs)

-- a new dict of these pairs
unfoldable pub new_dict : List (Datum × Datum) → Action State Datum
new_dict ps = new_content (pairs ps)
