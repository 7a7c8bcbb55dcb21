-- The members of a set whose text has a match of a pattern.
use Rattle.std.specs.Prelude.{◌≡◌, ℕ, ◌&&◌, Bool, false, List, map, length, slice_index_or, Option, Some, None}
use Rattle.bq_query_pattern.specs.Patterns.{is_found}
use Rattle.bq_package_target.specs.declared.target.Target.{Target}
use Rattle.bq_query_function.specs.Order.{text_of}
use Rattle.bq_query_function.specs.Texts.{kind_text, attribute_text}
use Rattle.bq_query_function.specs.Words.{Those}

-- the pattern is found anywhere in the text, if there is one
abbrev pub is_match : List ℕ → Option (List ℕ) → Bool
is_match pattern None = false
is_match pattern (Some text) = is_found pattern text

-- `kind(pattern, ..)`
abbrev pub has_kind : List ℕ → Target → Bool
has_kind pattern t = is_found pattern (kind_text t.kind)

-- `filter(pattern, ..)`
abbrev pub has_text : List ℕ → Target → Bool
has_text pattern t = is_found pattern (text_of t)

-- `attr(name, pattern, ..)`
abbrev pub has_attribute : List ℕ → List ℕ → Target → Bool
has_attribute name pattern t = elim (attribute_text name t) [ Some text ↦ is_found pattern text | None ↦ false ]

-- `kind`, `filter`, `attr`: the targets of the set that pass a test
abbrev pub Chosen : (Target → Bool) → List Target → (ℕ → Type 0) → ℕ → Type 0
Chosen test targets X y = X y × Those test targets y

-- of the set x, the targets that pass the test
abbrev pub Keeps : (Target → Bool) → List Target → List Bool → List Bool → Type 0
Keeps test targets x kept =
    (length kept ≡ length targets) × ((y : ℕ) → slice_index_or kept y false ≡ (slice_index_or x y false && slice_index_or (map test targets) y false))
