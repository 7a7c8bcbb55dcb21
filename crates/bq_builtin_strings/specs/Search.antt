-- Where a text occurs in another (Starlark, "string·find", "string·rfind", "string·count").
use Rattle.std.specs.Prelude.{◌≡◌, ◌<◌, ℕ, suc, ◌++◌, Bool, nat_eq, List, [], ◌∷◌, length, Option, Some, None, if◌then◌else◌}
use Rattle.std.specs.List.{starts_with}
use Rattle.std.specs.Option.{option_map}

-- ---- in words

-- the text has `sub` after `at` bytes
pub record StandsAt (sub text : List ℕ) (at : ℕ) : Type 0 where
  pub before : List ℕ
  pub after : List ℕ
  pub whole : text ≡ before ++ (sub ++ after)
  pub place : length before ≡ at

-- the least place at which the text has `sub`; `None` if it doesn't have it
abbrev pub IsLeastPlace : List ℕ → List ℕ → Option ℕ → Type 0
IsLeastPlace sub text None = (k : ℕ) → StandsAt sub text k → ⊥
IsLeastPlace sub text (Some at) = StandsAt sub text at × ((k : ℕ) → k < at → StandsAt sub text k → ⊥)

-- the greatest
abbrev pub IsGreatestPlace : List ℕ → List ℕ → Option ℕ → Type 0
IsGreatestPlace sub text None = (k : ℕ) → StandsAt sub text k → ⊥
IsGreatestPlace sub text (Some at) = StandsAt sub text at × ((k : ℕ) → at < k → StandsAt sub text k → ⊥)

-- ---- as functions

-- a text begins with `sub`
abbrev pub begins : List ℕ → List ℕ → Bool
begins sub text = starts_with nat_eq text sub

-- the first place of `sub`
unfoldable pub find : List ℕ → List ℕ → Option ℕ
find sub [] = if begins sub [] then Some 0 else None
find sub (b ∷ bs) = if begins sub (b ∷ bs) then Some 0 else option_map (λ k. suc k) (find sub bs)

-- the last place of `sub`
unfoldable pub rfind : List ℕ → List ℕ → Option ℕ
rfind sub [] = if begins sub [] then Some 0 else None
rfind sub (b ∷ bs) = elim (rfind sub bs) [ Some k ↦ Some (suc k) | None ↦ if begins sub (b ∷ bs) then Some 0 else None ]
