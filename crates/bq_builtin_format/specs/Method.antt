-- What the method `format` makes of a format and values (Starlark, "string·format"): the bytes of the format, and in place of each
-- field the `str` of the value that it names. A lone brace, a field that names no value, and fields without text beside fields
-- with a number are malformed (F59). What is malformed is noted and the rest is still visited: F59 comes after F53 and F55, and
-- F54 last.
use Rattle.std.specs.Prelude.{ℕ, List, [], ◌∷◌, Option, Some, None, Ok, if◌then◌else◌}
use Rattle.bq_value.specs.Datum.{Datum}
use Rattle.bq_value.specs.Cells.{StoreView}
use Rattle.bq_value.specs.Looked.{Looked}
use Rattle.bq_value_text.specs.Shown.{text_shown}
use Rattle.bq_builtin_format.specs.declared.argument.Numbering.{Numbering}
use Rattle.bq_builtin_format.specs.Percent.{DraftView, and_then, and_write, blank, onto, spoiled, text_by}
use Rattle.bq_builtin_format.specs.Piece.{Piece, byte, field, lone, pieces}
use Rattle.bq_builtin_format.specs.Argument.{argument, is_mixed, next_after, no_fields, numbering_after}

-- the `str` of the value that a field names, if it names one
abbrev pub field_shown : StoreView → DraftView → ℕ → Option Datum → Looked DraftView
field_shown s d n None = Ok (spoiled d, n)
field_shown s d n (Some v) = onto d.malformed (text_shown s d.page n v)

-- fields with and without numbers in one format spoil the text
abbrev pub unmixed : Numbering → DraftView → DraftView
unmixed m d = if is_mixed m then spoiled d else d

-- what is written of these pieces; `next` are the values from the next one on, `m` which fields have come
unfoldable pub made : StoreView → List Datum → List (List ℕ × Datum) → DraftView → ℕ → List Datum → Numbering → List Piece → Looked DraftView
made s all named d n next m [] = Ok (unmixed m d, n)
made s all named d n next m (byte b ∷ ps) = made s all named (and_write d (b ∷ [])) n next m ps
made s all named d n next m (lone ∷ ps) = made s all named (spoiled d) n next m ps
made s all named d n next m (field name ∷ ps) =
    and_then (field_shown s d n (argument all named next name)) (λ e k. made s all named e k (next_after next name) (numbering_after m name) ps)

-- `format.format(..)`
unfoldable pub formatted : StoreView → ℕ → List ℕ → List Datum → List (List ℕ × Datum) → Looked (List ℕ)
formatted s n format all named = text_by (made s all named blank n all no_fields (pieces format))
