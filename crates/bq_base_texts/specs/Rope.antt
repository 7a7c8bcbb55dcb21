-- The text of a rope.
use Rattle.std.specs.Prelude.{ℕ, List, ◌++◌}
use Rattle.std.specs.List.{concat}

-- the pieces in a row, and then the rest
abbrev pub text_of : List (List ℕ) → List ℕ → List ℕ
text_of pieces rest = concat pieces ++ rest
