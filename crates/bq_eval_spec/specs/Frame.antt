-- Frames: the values of the names of a function, or of a file, by slot (Starlark specification, "Name binding and variables").
use Rattle.std.specs.Prelude.{ℕ, ◌==◌, Option, Some, None, if◌then◌else◌}
use Rattle.bq_value.specs.Datum.{Datum}

-- A slot holds the value of its name, or none while the name is not bound.
abbrev pub Frame : Type 0
Frame = ℕ → Option Datum

-- a frame begins empty
unfoldable pub empty : Frame
empty slot = None

-- a name is bound
unfoldable pub fill : Frame → ℕ → Datum → Frame
fill frame slot v = λ other. if other == slot then Some v else frame other

-- What is around a function's body or a file's statements: the values of the file's globals, and of what its loads
-- bind.
pub record Surroundings : Type 0 where
  pub globals : Frame
  pub loaded : Frame
