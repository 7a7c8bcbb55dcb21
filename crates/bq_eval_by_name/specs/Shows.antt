-- When an environment and a frame say the same of the names of the blocks that are open.
use Rattle.std.specs.Prelude.{◌≡◌, ◌≢◌, ◌≤◌, ◌+◌, ℕ, List, [], ◌∷◌, length, Option, Some, None}
use Rattle.bq_resolve_scope.specs.Names.{Name, place_among}
use Rattle.bq_resolve_scope.specs.Scope.{BlockParts, FileParts, slot_in, slot_of}
use Rattle.bq_value.specs.Datum.{Datum}
use Rattle.bq_eval_spec.specs.Frame.{Frame, Surroundings}
use Rattle.bq_eval_spec.specs.Names.{Env, Round}

-- the slots of these blocks come before that one
abbrev pub Below : List BlockParts → ℕ → Type 0
Below [] slot = Unit {0}
Below (b ∷ bs) slot = (b.base + length b.names ≤ slot) × Below bs slot

-- the slots of a block come after those of the blocks around it; the blocks are in order, the innermost first
abbrev pub Nested : List BlockParts → Type 0
Nested [] = Unit {0}
Nested (b ∷ bs) = Below bs b.base × Nested bs

-- where the value of each name is
abbrev pub Places : Type 0
Places = Name → Option ℕ

-- what the frame has in a name's slot, if the name has one; Some None is an empty slot
abbrev pub through : Frame → Option ℕ → Option (Option Datum)
through frame None = None
through frame (Some slot) = Some (frame slot)

-- what the environment says of a name is what the frame holds in its place
abbrev pub Reads : Places → Env → Frame → Type 0
Reads places env frame = (name : Name) → env name ≡ through frame (places name)

-- a slot of none of these blocks
abbrev pub IsFree : List BlockParts → ℕ → Type 0
IsFree [] slot = Unit {0}
IsFree (b ∷ bs) slot = ((name : Name) → slot_in b name ≢ Some slot) × IsFree bs slot

-- The environment is the frame, read by the slots of the names that are in scope; what is a slot of no block here is empty.
pub record Shows (blocks : List BlockParts) (env : Env) (frame : Frame) : Type 0 where
  pub reads : Reads (slot_of blocks) env frame
  pub empty : (slot : ℕ) → IsFree blocks slot → frame slot ≡ None

-- what is around all blocks says the same of the names there
pub record Around (file : FileParts) (round : Round) (surroundings : Surroundings) : Type 0 where
  pub globals : Reads (λ name. place_among name file.globals) round.globals surroundings.globals
  pub loaded : Reads (λ name. place_among name file.loaded) round.loaded surroundings.loaded
  pub universe : round.universe ≡ file.universe
