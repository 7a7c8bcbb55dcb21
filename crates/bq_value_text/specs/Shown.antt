-- The text of a value (Starlark, "str", "repr"), written after what is written already, one step for each value visited.
use Rattle.std.specs.Prelude.{ℕ, zero, suc, cond, List, [], ◌∷◌, length, Option, Some, None, Ok, Err, ◌==◌, codes}
use Rattle.bq_base.specs.declared.fault.EvalFault.TheVariants.{TooDeep, TooLong}
use Rattle.bq_value.specs.Datum.{Datum, string, tuple, cell, list_of}
use Rattle.bq_value.specs.Contents.{Contents, items, pairs, rule}
use Rattle.bq_value.specs.Cells.{StoreView, content_at}
use Rattle.bq_value.specs.Looked.{Looked, stepped, max_levels}
use Rattle.bq_value_text.specs.Page.{PageView, written}
use Rattle.bq_value_text.specs.Leaf.{leaf_written}

-- how a value is written
abbrev pub Shows : Type 0
Shows = PageView → ℕ → Datum → Looked PageView

-- what is written next, unless there was a fault
abbrev pub and_then : Looked PageView → (PageView → ℕ → Looked PageView) → Looked PageView
and_then (Ok p) next = next p.0 p.1
and_then (Err kind) next = Err kind

-- each value after a separator, which is `, ` from the second on
abbrev pub all_shown : Shows → List ℕ → PageView → ℕ → List Datum → Looked PageView
all_shown show separator page n [] = Ok (page, n)
all_shown show separator page n (x ∷ xs) = and_then (show (written page separator) n x) (λ p m. all_shown show (codes ", ") p m xs)

-- the texts of pairs, each as `key: value`
abbrev pub pairs_shown : Shows → List ℕ → PageView → ℕ → List (Datum × Datum) → Looked PageView
pairs_shown show separator page n [] = Ok (page, n)
pairs_shown show separator page n (x ∷ xs) =
    and_then (show (written page separator) n x.0) (λ p m. and_then (show (written p (codes ": ")) m x.1) (λ q k. pairs_shown show (codes ", ") q k xs))

-- what was written, and this behind it
abbrev pub closed : List ℕ → Looked PageView → Looked PageView
closed end r = and_then r (λ p m. Ok (written p end, m))

-- between brackets
abbrev pub list_shown : Shows → List ℕ → List ℕ → PageView → ℕ → List Datum → Looked PageView
list_shown show begin end page n xs = closed end (all_shown show [] (written page begin) n xs)

-- a dict in braces
abbrev pub dict_shown : Shows → PageView → ℕ → List (Datum × Datum) → Looked PageView
dict_shown show page n ps = closed (codes "}") (pairs_shown show [] (written page (codes "{")) n ps)

-- what a cell holds, as it is written
abbrev pub contents_shown : Shows → PageView → ℕ → Contents → Looked PageView
contents_shown show page n (items xs) = list_shown show (codes "[") (codes "]") page n xs
contents_shown show page n (pairs ps) = dict_shown show page n ps
contents_shown show page n (rule c) = Ok (written page (codes "<rule>"), n)

-- a cell that the store doesn't know, which no program has, has no text
abbrev pub cell_shown : Shows → PageView → ℕ → Option Contents → Looked PageView
cell_shown show page n (Some c) = contents_shown show page n c
cell_shown show page n None = Ok (page, n)

-- a tuple of one has a comma
abbrev pub tuple_end : List Datum → List ℕ
tuple_end xs = cond (length xs == 1) (codes ",)") (codes ")")

-- a value, as it is written inside another
abbrev pub parts_shown : Shows → StoreView → PageView → ℕ → Datum → Looked PageView
parts_shown show s page n (tuple xs) = list_shown show (codes "(") (tuple_end (list_of xs)) page n (list_of xs)
parts_shown show s page n (cell home number) = cell_shown show page n (content_at s home number)
parts_shown show s page n v = Ok (leaf_written page v, n)

-- where this many levels may be written
abbrev pub shown_at : ℕ → StoreView → Shows
shown_at zero s page n v = stepped n (λ m. Err TooDeep)
shown_at (suc l) s page n v = stepped n (λ m. parts_shown (shown_at l s) s page m v)

-- `repr`, with 64 levels to go
unfoldable pub repr_shown : StoreView → Shows
repr_shown s page n v = shown_at max_levels s page n v

-- the bytes of a string
abbrev pub string_in : Datum → Option (List ℕ)
string_in (string bytes) = Some bytes
string_in _ = None

-- `str`: a string is itself, and takes one step as its `repr` does
abbrev pub text_by : StoreView → PageView → ℕ → Datum → Option (List ℕ) → Looked PageView
text_by s page n v (Some bytes) = stepped n (λ m. Ok (written page bytes, m))
text_by s page n v None = repr_shown s page n v

-- the text of a value: a string as it is, all else as it is written
abbrev pub text_shown : StoreView → Shows
text_shown s page n v = text_by s page n v (string_in v)

-- the text that was written, if it was not too long
abbrev pub finished_by : Looked PageView → Looked (List ℕ)
finished_by (Ok (Some text, n)) = Ok (text, n)
finished_by (Ok (None, n)) = Err TooLong
finished_by (Err kind) = Err kind

-- the text and the steps that are left, or the fault; F54 comes last
abbrev pub repr_of : StoreView → ℕ → Datum → Looked (List ℕ)
repr_of s n v = finished_by (repr_shown s (Some []) n v)

-- the text of a value, with the steps left
abbrev pub text_of : StoreView → ℕ → Datum → Looked (List ℕ)
text_of s n v = finished_by (text_shown s (Some []) n v)
