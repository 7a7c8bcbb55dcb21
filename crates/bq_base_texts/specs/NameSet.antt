-- Names in order.
use Rattle.std.specs.Prelude.{ℕ, List, [], ◌∷◌, ◌++◌, Bool, bytes_eq, if◌then◌else◌}
use Rattle.std.specs.List.{list_any}

-- one of them is this name
abbrev pub has : List (List ℕ) → List ℕ → Bool
has names name = list_any (bytes_eq name) names

-- the name as the last, where it isn't there
abbrev pub with_name : List (List ℕ) → List ℕ → List (List ℕ)
with_name names name = if has names name then names else names ++ name ∷ []
