-- What `%` makes of a format and values (Starlark, "String interpolation"): `%s` is the `str` of the next value, `%r` its `repr`,
-- `%d` an integer in decimal digits, `%%` a percent sign. Anything else is malformed (F59), and so is a value too few or too many.
-- What is malformed is noted and the rest is still visited: F59 comes after F53 and F55, and F54 last.
use Rattle.std.specs.Prelude.{ℕ, zero, suc, ◌==◌, ◌||◌, Bool, true, false, cond, List, [], ◌∷◌, length, drop, Option, Some, None, Result, Ok, Err, codes}
use Rattle.std.specs.Fmt.{signed_decimal}
use Rattle.bq_base.specs.declared.fault.EvalFault.{EvalFault}
use Rattle.bq_base.specs.declared.fault.EvalFault.TheVariants.{Format}
use Rattle.bq_value.specs.Datum.{Datum, int, tuple, list_of}
use Rattle.bq_value.specs.Cells.{StoreView}
use Rattle.bq_value.specs.Looked.{Looked}
use Rattle.bq_builtin_strings.specs.Parts.{partition}
use Rattle.bq_value_text.specs.Page.{PageView, written, finished}
use Rattle.bq_value_text.specs.Shown.{text_shown, repr_shown}

-- what is written, and whether something was malformed
pub record DraftView : Type 0 where
  pub page : PageView
  pub malformed : Bool

-- bytes are written behind what a draft has
abbrev pub and_write : DraftView → List ℕ → DraftView
and_write d bytes = record { page = written d.page bytes; malformed = d.malformed }

-- the format is found to be wrong, which is said at the end
abbrev pub spoiled : DraftView → DraftView
spoiled d = record { page = d.page; malformed = true }

-- a page that was written on, as a draft
abbrev pub onto : Bool → Looked PageView → Looked DraftView
onto malformed (Ok (page, n)) = Ok (record { page = page; malformed = malformed }, n)
onto malformed (Err kind) = Err kind

-- what follows on a draft, unless there was a fault
abbrev pub and_then : Looked DraftView → (DraftView → ℕ → Looked DraftView) → Looked DraftView
and_then (Ok (d, n)) next = next d n
and_then (Err kind) next = Err kind

-- an integer in decimal digits; another value is malformed there
abbrev pub decimal : DraftView → Datum → DraftView
decimal d (int z) = and_write d (signed_decimal z)
decimal d _ = spoiled d

-- `s`, `r` and `d` take a value
abbrev pub takes_value : ℕ → Bool
takes_value k = (k == 115) || ((k == 114) || (k == 100))

-- a value by the letter of its conversion: `s` its text, `r` its representation, and `d`
abbrev pub shown : StoreView → DraftView → ℕ → ℕ → Datum → Looked DraftView
shown s d n k v = cond (k == 115) (onto d.malformed (text_shown s d.page n v)) (cond (k == 114) (onto d.malformed (repr_shown s d.page n v)) (Ok (decimal d v, n)))

-- the next value, if there is one
abbrev pub next_shown : StoreView → DraftView → ℕ → ℕ → List Datum → Looked DraftView
next_shown s d n k [] = Ok (spoiled d, n)
next_shown s d n k (v ∷ vs) = shown s d n k v

-- the conversion that the first byte names; no byte is malformed
abbrev pub converted : StoreView → DraftView → ℕ → List ℕ → List Datum → Looked DraftView
converted s d n [] values = Ok (spoiled d, n)
converted s d n (k ∷ rest) values = cond (takes_value k) (next_shown s d n k values) (cond (k == 37) (Ok (and_write d (codes "%"), n)) (Ok (spoiled d, n)))

-- the values that are left after it
abbrev pub values_after : List ℕ → List Datum → List Datum
values_after [] values = values
values_after (k ∷ rest) values = cond (takes_value k) (drop 1 values) values

-- values that are left at the end are malformed
abbrev pub ended : DraftView → List Datum → DraftView
ended d [] = d
ended d (v ∷ vs) = spoiled d

-- a format by its next `%`, if it has one: the text before, the conversion, and what is `later`
abbrev pub filled_by : (DraftView → ℕ → List Datum → List ℕ → Looked DraftView) → StoreView → DraftView → ℕ → List Datum → List ℕ → Option (List ℕ × List ℕ) → Looked DraftView
filled_by later s d n values text None = Ok (ended (and_write d text) values, n)
filled_by later s d n values text (Some p) = and_then (converted s (and_write d p.0) n p.1 values) (λ e m. later e m (values_after p.1 values) (drop 1 p.1))

-- what is before the first percent sign is text; then the conversion after it, then the rest; with at most this many
-- percent signs
unfoldable pub filled : ℕ → StoreView → DraftView → ℕ → List Datum → List ℕ → Looked DraftView
filled zero s d n values text = Ok (ended (and_write d text) values, n)
filled (suc most) s d n values text = filled_by (filled most s) s d n values text (partition (codes "%") text)

-- nothing is written yet
abbrev pub blank : DraftView
blank = record { page = Some []; malformed = false }

-- the text of a draft, or F59 where its format is malformed, or F54 where it is too long
abbrev pub finished_draft : DraftView → Result (List ℕ) EvalFault
finished_draft d = elim d.malformed [ true ↦ Err Format | false ↦ finished d.page ]

-- the text of a draft, beside the steps left
abbrev pub text_by : Looked DraftView → Looked (List ℕ)
text_by (Ok (d, n)) = elim (finished_draft d) [ Ok text ↦ Ok (text, n) | Err kind ↦ Err kind ]
text_by (Err kind) = Err kind

-- `format % values`: the text with all its conversions filled in
abbrev pub text_filled : StoreView → ℕ → List ℕ → List Datum → Looked (List ℕ)
text_filled s n format values = text_by (filled (length format) s blank n values format)

-- the right side is a tuple of the values, or the one value
abbrev pub percent_of : StoreView → ℕ → List ℕ → Datum → Looked (List ℕ)
percent_of s n format (tuple xs) = text_filled s n format (list_of xs)
percent_of s n format v = text_filled s n format (v ∷ [])
