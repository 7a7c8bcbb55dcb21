-- The lines of a text (Starlark, "string·splitlines"): a line ends with LF, CR LF or CR.
use Rattle.std.specs.Prelude.{ℕ, suc, ◌-◌, Bool, true, false, not, ◌&&◌, ◌||◌, ◌==◌, nat_eq, List, [], ◌∷◌, length, take, if◌then◌else◌}
use Rattle.std.specs.List.{starts_with, ends_with}

-- a line ends at a newline, and at a carriage return that has no newline after it
abbrev pub line_ends : ℕ → List ℕ → Bool
line_ends b after = (b == 10) || ((b == 13) && not (starts_with nat_eq after (10 ∷ [])))

-- the lines with their ends; the last may have none
unfoldable pub lines : List ℕ → List (List ℕ)
lines [] = []
lines (b ∷ bs) = if line_ends b bs then (b ∷ []) ∷ lines bs else elim (lines bs) [ [] ↦ (b ∷ []) ∷ [] | line ∷ others ↦ (b ∷ line) ∷ others ]

-- how long the first line is, with its end
unfoldable pub line_len : List ℕ → ℕ
line_len [] = 0
line_len (b ∷ bs) = if line_ends b bs then 1 else suc (line_len bs)

-- without its end
unfoldable pub bare : List ℕ → List ℕ
bare line =
    if ends_with nat_eq line (13 ∷ 10 ∷ []) then take (length line - 2) line else
    if ends_with nat_eq line (10 ∷ []) || ends_with nat_eq line (13 ∷ []) then take (length line - 1) line else line

-- with its end or without
abbrev pub part : Bool → List ℕ → List ℕ
part true line = line
part false line = bare line
