-- Parts of definitions, as words that proofs name.
use Rattle.std.specs.Prelude.{[], ◌∷◌, Bool, Err, List, None, Ok, Option, Result, Some, false, if◌then◌else◌, true, ℕ}
use Rattle.bq_base.specs.declared.fault.EvalFault.{EvalFault}
use Rattle.bq_base.specs.declared.fault.EvalFault.TheVariants.{Format}
use Rattle.bq_value.specs.Looked.{Looked}
use Rattle.bq_value_text.specs.Page.{PageView, finished}
use Rattle.bq_builtin_format.specs.Piece.{Piece, byte, doubled, field, is_brace}

-- a text, beside the steps left
abbrev pub with_steps : ℕ → Result (List ℕ) EvalFault → Looked (List ℕ)
with_steps n o = elim o [ Ok text ↦ Ok (text, n) | Err kind ↦ Err kind ]

-- the text, or F59, or F54
abbrev pub finished_when : Bool → PageView → Result (List ℕ) EvalFault
finished_when o page = elim o [ true ↦ Err Format | false ↦ finished page ]

-- the first piece of a text, and what stands behind it, by the field that begins here
abbrev pub piece_by : ℕ → List ℕ → Option (List ℕ × List ℕ) → Piece × List ℕ
piece_by b bs o = elim o [ Some p ↦ (field p.0, p.1) | None ↦ if is_brace b then doubled b bs else (byte b, bs) ]

-- the text of a field, and what is after the brace that closes it
abbrev pub closed : List ℕ → List ℕ → Option (List ℕ × List ℕ)
closed name o = elim o [ [] ↦ None | end ∷ rest ↦ Some (name, rest) ]
