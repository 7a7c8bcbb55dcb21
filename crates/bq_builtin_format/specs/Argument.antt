-- Which value a field names (Starlark, "string·format"): no text means the next value, digits the number of one, a word the name
-- of a named one. Any other text names none.
use Rattle.std.specs.Prelude.{◌≡◌, ℕ, Bool, true, false, ◌&&◌, List, [], ◌∷◌, drop, take, map, length, slice_get, bytes_eq, Option, Some, None, if◌then◌else◌}
use Rattle.std.specs.List.{list_all}
use Rattle.std.specs.Str.Parse.{digits_value}
use Rattle.bq_source.specs.Lexis.{is_letter, is_word, is_digit}
use Rattle.bq_value.specs.Datum.{Datum}
use Rattle.bq_builtin_format.specs.declared.argument.Numbering.{Numbering}

-- digits, one at least
abbrev pub is_number : List ℕ → Bool
is_number [] = false
is_number (b ∷ bs) = list_all is_digit (b ∷ bs)

-- a word, which begins with no digit
abbrev pub is_name : List ℕ → Bool
is_name [] = false
is_name (b ∷ bs) = is_letter b && list_all is_word bs

-- the value of a name
abbrev pub named_value : List ℕ → List (List ℕ × Datum) → Option Datum
named_value name [] = None
named_value name (p ∷ ps) = if bytes_eq p.0 name then Some p.1 else named_value name ps

-- the first of these pairs have these names
abbrev pub BeginWith : List (List ℕ × Datum) → List (List ℕ) → Type 0
BeginWith ps names = take (length names) (map (λ p. p.0) ps) ≡ names

-- `next` are the values from the next one on
abbrev pub argument : List Datum → List (List ℕ × Datum) → List Datum → List ℕ → Option Datum
argument all named next name =
    if bytes_eq name [] then slice_get next 0 else
    if is_number name then slice_get all (digits_value 10 name) else
    if is_name name then named_value name named else None

-- the values from the next one on, after this field
abbrev pub next_after : List Datum → List ℕ → List Datum
next_after next name = if bytes_eq name [] then drop 1 next else next

-- whether fields without text, and fields with a number, have come
abbrev pub no_fields : Numbering
no_fields = record { is_automatic = false; is_numbered = false }

-- how fields are numbered, after one of this name
abbrev pub numbering_after : Numbering → List ℕ → Numbering
numbering_after m name =
    if bytes_eq name [] then record { is_automatic = true; is_numbered = m.is_numbered } else
    if is_number name then record { is_automatic = m.is_automatic; is_numbered = true } else m

-- both at once is malformed
abbrev pub is_mixed : Numbering → Bool
is_mixed m = m.is_automatic && m.is_numbered
