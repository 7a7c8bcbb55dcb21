-- A walk along a tree in the order of its text, which ends at the first fault.
use Rattle.std.specs.Prelude.{ℕ, List, [], ◌∷◌, ◌++◌, Option, Some, None, Result, Ok, Err}
use Rattle.bq_base.specs.declared.fault.Fault.{Fault}
use Rattle.bq_base.specs.declared.fault.NameFault.{NameFault}
use Rattle.bq_parse_grammar.specs.declared.tree.Identifier.{Identifier}
use Rattle.bq_parse_grammar.specs.Literals.{name_line}
use Rattle.bq_resolve_scope.specs.declared.file.Function.{Function}
use Rattle.bq_resolve_scope.specs.declared.loads.LoadStmt.{LoadStmt}
use Rattle.bq_resolve_scope.specs.Names.{Name}

-- what was passed so far
pub record Passed : Type 0 where
  -- how many slots the frame has
  pub slots : ℕ
  -- the names that the file bound
  pub bound : List Name
  -- the names of its load clauses
  pub loaded : List Name
  pub functions : List Function
  pub loads : List LoadStmt

-- before the walk
abbrev pub nothing_passed : Passed
nothing_passed = record { slots = 0; bound = []; loaded = []; functions = []; loads = [] }

-- a part of the walk: it goes on with what was passed, or ends in a fault
abbrev pub Visit : Type 0 → Type 0
Visit A = Passed → Result (A × Passed) (Fault NameFault)

-- what follows a part, unless that met a fault
abbrev pub following : {A B : Type 0} → Result (A × Passed) (Fault NameFault) → (A → Visit B) → Result (B × Passed) (Fault NameFault)
following (Err f) go = Err f
following (Ok r) go = go r.0 r.1

infixl 10 ◌>>=◌
-- a part of the walk, and what follows it
abbrev pub ◌>>=◌ : {A B : Type 0} → Visit A → (A → Visit B) → Visit B
v >>= go = λ s. following (v s) go

-- nothing is passed
abbrev pub pure : {A : Type 0} → A → Visit A
pure x = λ s. Ok (x, s)

-- a fault about a name
abbrev pub fault_of : NameFault → Identifier → Fault NameFault
fault_of kind n = record { kind = kind; line = name_line n; detail = n.name }

-- the walk ends in a fault
abbrev pub stop : {A : Type 0} → Fault NameFault → Visit A
stop f = λ s. Err f

-- a value, or this fault where it is missing
abbrev pub given : {A : Type 0} → Fault NameFault → Option A → Visit A
given f None = stop f
given f (Some x) = pure x

-- the results so far, and those of all of these
unfoldable pub each : {A B : Type 0} → (A → Visit B) → List B → List A → Visit (List B)
each one done [] = pure done
each one done (x ∷ xs) = one x >>= λ y. each one (done ++ y ∷ []) xs

-- a part that may be missing
abbrev pub optional : {A B : Type 0} → (A → Visit B) → Option A → Visit (Option B)
optional one None = pure None
optional one (Some x) = one x >>= λ y. pure (Some y)
