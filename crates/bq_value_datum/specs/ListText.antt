-- How lists are written for patterns (Bazel query reference, `attr`).
use Rattle.std.specs.Prelude.{ℕ, ◌++◌, List, [], ◌∷◌, codes}
use Rattle.std.specs.List.{flat_map}

-- texts with commas between them
abbrev pub items : List (List ℕ) → List ℕ
items [] = []
items (x ∷ xs) = x ++ flat_map (λ y. codes ", " ++ y) xs

-- `[v1, v2]`
unfoldable pub list_text : List (List ℕ) → List ℕ
list_text xs = codes "[" ++ (items xs ++ codes "]")

-- further items of a list, each after a comma
abbrev pub further : List (List ℕ) → List ℕ
further xs = flat_map (λ x. codes ", " ++ x) xs
