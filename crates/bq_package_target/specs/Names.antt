-- The names that are taken in a package.
use Rattle.std.specs.Prelude.{ℕ, List, [], ◌∷◌, ◌++◌, Bool, true, not, ◌&&◌, if◌then◌else◌}
use Rattle.bq_base_texts.specs.NameSet.{has}

-- the name as the last, where it isn't there
unfoldable pub with_name : List (List ℕ) → List ℕ → List (List ℕ)
with_name names name = if has names name then names else names ++ name ∷ []

-- none of these names is taken, nor is one there twice
unfoldable pub are_new : List (List ℕ) → List (List ℕ) → Bool
are_new taken [] = true
are_new taken (n ∷ ns) = not (has taken n) && are_new (taken ++ n ∷ []) ns
