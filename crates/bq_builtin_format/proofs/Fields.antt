-- One field of a format after another.
use Rattle.std.proofs.Common.{◌≡◌, ℕ, List, [], ◌∷◌, Option, Some, Ok, Err, refl, sym, ap, ◌∙◌}
use Rattle.bq_base.specs.declared.fault.EvalFault.{EvalFault}
use Rattle.bq_value.specs.Datum.{Datum}
use Rattle.bq_value.specs.Cells.{StoreView}
use Rattle.bq_value.specs.Looked.{Looked}
use Rattle.bq_builtin_format.specs.declared.argument.Numbering.{Numbering}
use Rattle.bq_builtin_format.specs.Percent.{DraftView, and_then, and_write, blank, spoiled, text_by}
use Rattle.bq_builtin_format.specs.Piece.{Piece, byte, field, lone, field_of, literal, pieces}
use Rattle.bq_builtin_format.specs.Argument.{argument, next_after, no_fields, numbering_after}
use Rattle.bq_builtin_format.specs.Method.{field_shown, formatted, made, unmixed}
use Rattle.bq_builtin_format.proofs.Cutting.{pieces_field, pieces_none}

module _ (s : StoreView) (all : List Datum) (named : List (List ℕ × Datum)) where
  -- what comes before the first field may be written first
  made_literal : (d : DraftView) (n : ℕ) (next : List Datum) (m : Numbering) (ps : List Piece) → made s all named d n next m ps ≡ made s all named ((literal d ps).0) n next m ((literal d ps).1)
  unfolding made literal
  made_literal d n next m [] = refl
  made_literal d n next m (byte b ∷ ps) = made_literal (and_write d (b ∷ [])) n next m ps
  made_literal d n next m (lone ∷ ps) = made_literal (spoiled d) n next m ps
  made_literal d n next m (field name ∷ ps) = refl

  pub made_from : (d e : DraftView) (n : ℕ) (next : List Datum) (m : Numbering) (text rest : List ℕ) → literal d (pieces text) ≡ (e, pieces rest) → made s all named d n next m (pieces text) ≡ made s all named e n next m (pieces rest)
  made_from d e n next m text rest h = made_literal d n next m (pieces text) ∙ ap (λ (p : DraftView × List Piece). made s all named (p.0) n next m (p.1)) h

  made_field : (d : DraftView) (n : ℕ) (next : List Datum) (m : Numbering) (text name after : List ℕ) → field_of text ≡ Some (name, after)
      → made s all named d n next m (pieces text) ≡ and_then (field_shown s d n (argument all named next name)) (λ e k. made s all named e k (next_after next name) (numbering_after m name) (pieces after))
  unfolding made
  made_field d n next m text name after f = ap (made s all named d n next m) (pieces_field text name after f)

  pub made_more : (d e g : DraftView) (n k : ℕ) (next later : List Datum) (m q : Numbering) (text name after rest : List ℕ) (v : Option Datum) → field_of text ≡ Some (name, after) → v ≡ argument all named next name → field_shown s d n v ≡ Ok (e, k)
      → later ≡ next_after next name → q ≡ numbering_after m name → literal e (pieces after) ≡ (g, pieces rest) → (total : Looked DraftView) → total ≡ made s all named d n next m (pieces text) → total ≡ made s all named g k later q (pieces rest)
  made_more d e g n k next later m q text name after rest v f a shown l o w total h =
      let shows : field_shown s d n (argument all named next name) ≡ Ok (e, k) = ap (field_shown s d n) (sym a) ∙ shown in
      h ∙ (made_field d n next m text name after f
      ∙ (ap (λ (r : Looked DraftView). and_then r (λ e k. made s all named e k (next_after next name) (numbering_after m name) (pieces after))) shows
      ∙ (made_from e g k (next_after next name) (numbering_after m name) after rest w ∙ rw (l, o) refl)))

  pub made_bad : (d : DraftView) (n : ℕ) (next : List Datum) (m : Numbering) (text name after : List ℕ) (v : Option Datum) (kind : EvalFault) → field_of text ≡ Some (name, after) → v ≡ argument all named next name → field_shown s d n v ≡ Err kind
      → (total : Looked DraftView) → total ≡ made s all named d n next m (pieces text) → total ≡ Err kind
  made_bad d n next m text name after v kind f a shown total h =
      let shows : field_shown s d n (argument all named next name) ≡ Err kind = ap (field_shown s d n) (sym a) ∙ shown in
      h ∙ (made_field d n next m text name after f ∙ ap (λ (r : Looked DraftView). and_then r (λ e k. made s all named e k (next_after next name) (numbering_after m name) (pieces after))) shows)

  pub made_end : (d : DraftView) (n : ℕ) (next : List Datum) (m : Numbering) (text : List ℕ) → text ≡ [] → (total : Looked DraftView) → total ≡ made s all named d n next m (pieces text) → total ≡ Ok (unmixed m d, n)
  unfolding made
  made_end d n next m text e total h = h ∙ (ap (λ (t : List ℕ). made s all named d n next m (pieces t)) e ∙ ap (made s all named d n next m) pieces_none)

  pub formatted_when : (n : ℕ) (text : List ℕ) (r : Looked DraftView) → made s all named blank n all no_fields (pieces text) ≡ r → formatted s n text all named ≡ text_by r
  unfolding formatted
  formatted_when n text r e = ap text_by e
