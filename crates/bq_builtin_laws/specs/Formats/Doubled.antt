-- A text as a format writes it.
use Rattle.std.specs.Prelude.{ℕ, ◌==◌, cond, List, [], ◌∷◌}

-- each percent sign is written twice
abbrev pub doubled : List ℕ → List ℕ
doubled [] = []
doubled (b ∷ bs) = cond (37 == b) (37 ∷ 37 ∷ doubled bs) (b ∷ doubled bs)
