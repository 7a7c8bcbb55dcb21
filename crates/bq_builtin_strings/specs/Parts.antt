-- The parts of a text between separators (Starlark, "string·split", "string·rsplit", "string·partition", "string·rpartition",
-- "string·count", "string·replace", "string·join").
use Rattle.std.specs.Prelude.{ℕ, zero, suc, ◌+◌, List, [], ◌∷◌, ◌++◌, Option, Some, None, length, take, drop, bytes_eq, if◌then◌else◌}
use Rattle.bq_builtin_strings.specs.Search.{find, rfind}

-- the text before a place, and the text after the separator that is there
abbrev pub around : List ℕ → List ℕ → Option ℕ → Option (List ℕ × List ℕ)
around separator text None = None
around separator text (Some at) = Some (take at text, drop (at + length separator) text)

-- what is before the first separator and what is after it
unfoldable pub partition : List ℕ → List ℕ → Option (List ℕ × List ℕ)
partition separator text = around separator text (find separator text)

-- what is before the last separator and what is after it
unfoldable pub rpartition : List ℕ → List ℕ → Option (List ℕ × List ℕ)
rpartition separator text = around separator text (rfind separator text)

-- a cut at the first separator where some cuts are left
unfoldable pub cut_within : List ℕ → ℕ → List ℕ → Option (List ℕ × List ℕ)
cut_within separator zero text = None
cut_within separator (suc left) text = partition separator text

-- at the last
unfoldable pub cut_last_within : List ℕ → ℕ → List ℕ → Option (List ℕ × List ℕ)
cut_last_within separator zero text = None
cut_last_within separator (suc left) text = rpartition separator text

-- the text cut at the first separator in what is left, at most this many times
unfoldable pub split : List ℕ → ℕ → List ℕ → List (List ℕ)
split separator zero text = text ∷ []
split separator (suc most) text = elim (partition separator text) [ None ↦ text ∷ [] | Some p ↦ p.0 ∷ split separator most p.1 ]

-- the text cut at the last separator in what is left, at most this many times
unfoldable pub rsplit : List ℕ → ℕ → List ℕ → List (List ℕ)
rsplit separator zero text = text ∷ []
rsplit separator (suc most) text = elim (rpartition separator text) [ None ↦ text ∷ [] | Some p ↦ rsplit separator most p.0 ++ p.1 ∷ [] ]

-- how often the text is cut
unfoldable pub cuts : List ℕ → ℕ → List ℕ → ℕ
cuts separator zero text = 0
cuts separator (suc most) text = elim (partition separator text) [ None ↦ 0 | Some p ↦ 1 + cuts separator most p.1 ]

-- how often the text has `sub`, without overlaps from the left; an empty one is before each byte and at the end
unfoldable pub count : List ℕ → List ℕ → ℕ
count sub text = if bytes_eq sub [] then length text + 1 else cuts sub (length text) text

-- what follows a part: the other parts, each after a separator
unfoldable pub joined_on : List ℕ → List (List ℕ) → List ℕ
joined_on separator [] = []
joined_on separator (part ∷ parts) = separator ++ (part ++ joined_on separator parts)

-- the parts with the separator between each two
unfoldable pub join : List ℕ → List (List ℕ) → List ℕ
join separator [] = []
join separator (part ∷ parts) = part ++ joined_on separator parts

-- the text with another in place of each of the first places where it is cut
unfoldable pub replace_cuts : List ℕ → List ℕ → ℕ → List ℕ → List ℕ
replace_cuts old new zero text = text
replace_cuts old new (suc most) text = elim (partition old text) [ None ↦ text | Some p ↦ p.0 ++ (new ++ replace_cuts old new most p.1) ]

-- `new` before each byte and at the end, at most this many times
unfoldable pub interleave : List ℕ → ℕ → List ℕ → List ℕ
interleave new zero text = text
interleave new (suc most) [] = new
interleave new (suc most) (b ∷ bs) = new ++ b ∷ interleave new most bs

-- the first `most` places of `old` are `new`; an empty `old` stands before each byte and at the end
unfoldable pub replace : List ℕ → List ℕ → ℕ → List ℕ → List ℕ
replace old new most text = if bytes_eq old [] then interleave new most text else replace_cuts old new most text
