-- Indentation and brackets leave the rest of the text alone, so each step takes a piece of it.
use Rattle.std.proofs.Common.{◌≡◌, ℕ, ◌<◌, List, [], ◌∷◌, length, drop, Option, Some, None, Result, Ok, Err, refl, sym, ap, ◌∙◌, subst, arith, nat_lt}
use Rattle.std.specs.Prelude.{◌==◌}
use Rattle.std.proofs.lemmas.List.{length-drop}
use Rattle.bq_source.specs.declared.token.TokenKind.{TokenKind}
use Rattle.bq_source.specs.declared.operators.Lexeme.{Lexeme}
use Rattle.bq_source.specs.declared.operators.Lexeme.TheVariants.{Plain, Opens, Closes}
use Rattle.bq_source.specs.declared.piece.Extent.{Extent}
use Rattle.bq_source.specs.declared.piece.Piece.{Piece}
use Rattle.bq_source.specs.declared.piece.Piece.TheVariants.{Gap, LineEnd, Lexed, Bad}
use Rattle.bq_source_lexer.specs.declared.place.Margin.{Margin}
use Rattle.bq_source_lexer.specs.declared.place.OpenBracket.{OpenBracket}
use Rattle.bq_base.specs.declared.fault.TokenFault.{TokenFault}
use Rattle.bq_base.specs.declared.fault.Fault.{Fault}
use Rattle.bq_source.specs.Token.{same_kind}
use Rattle.bq_source.specs.Operators.{kind_of}
use Rattle.bq_source.specs.Piece.{next_piece, IsPart, Fits}
use Rattle.bq_source_lexer.specs.Reading.{State, skip, push_token, end_line, end_line_by, close_above, width_of, set_width, indent, close_by, nest, nest_by, take_token, refuse, and_then, step}
use Rattle.bq_source_lexer.proofs.Cases.{advance, indent_by}
use Rattle.bq_base.proofs.Choices.{by_test}
use Rattle.bq_source.proofs.Fitting.{fits}

-- where the step leads on, the same bytes are next
abbrev pub KeepsRest : State → Result State (Fault TokenFault) → Type 0
KeepsRest s (Ok t) = t.rest ≡ s.rest
KeepsRest s (Err e) = Unit {0}

pub closed_rest : (width : ℕ) (ws : List ℕ) (s : State) → (close_above width ws s).rest ≡ s.rest
closed_rest width [] s = refl
closed_rest width (w ∷ ws) s = by_test (λ (t : State). t.rest ≡ s.rest) (nat_lt width w) _ _ (λ t. closed_rest width ws _) (λ t. refl)

width_keeps : (width line : ℕ) (s : State) → KeepsRest s (set_width width line s)
unfolding set_width
width_keeps width line s =
    by_test (KeepsRest s) (nat_lt (width_of s.widths) width) _ _ (λ t. refl) (λ t.
    by_test (KeepsRest s) (width_of (close_above width s.widths s).widths == width) _ _ (λ u. closed_rest width s.widths s) (λ u. tt))

indent_by_keeps : (margin : Option Margin) (s : State) → KeepsRest s (indent_by margin s)
indent_by_keeps None s = refl
indent_by_keeps (Some m) s = by_test (KeepsRest s) m.tab _ _ (λ t. tt) (λ t. width_keeps m.width m.line (record s { margin = None }))

indent_keeps : (s : State) → KeepsRest s (indent s)
unfolding indent
indent_keeps s = indent_by_keeps s.margin s

close_keeps : (os : List OpenBracket) (kind : TokenKind) (s : State) → KeepsRest s (close_by os kind s)
close_keeps [] kind s = tt
close_keeps (o ∷ os) kind s = by_test (KeepsRest s) (same_kind o.closing kind) _ _ (λ t. refl) (λ t. tt)

nest_by_keeps : (lexeme : Lexeme) (s : State) → KeepsRest s (nest_by lexeme s)
nest_by_keeps (Plain kind) s = refl
nest_by_keeps (Opens kind closing) s = refl
nest_by_keeps (Closes kind) s = close_keeps s.open_brackets kind s

nest_keeps : (lexeme : Lexeme) (s : State) → KeepsRest s (nest lexeme s)
unfolding nest
nest_keeps lexeme s = nest_by_keeps lexeme s

pub indent_rest : (s t : State) → indent s ≡ Ok t → t.rest ≡ s.rest
indent_rest s t h = subst (KeepsRest s) h (indent_keeps s)

-- what is a part of the rest is one after the indentation
pub indent_part : (s t : State) (extent : Extent) → indent s ≡ Ok t → IsPart s.rest extent → IsPart t.rest extent
indent_part s t extent h part = let P : List ℕ → Type 0 = λ xs. IsPart xs extent in subst P (sym (indent_rest s t h)) part

pub nest_rest : (lexeme : Lexeme) (s t : State) → nest lexeme s ≡ Ok t → t.rest ≡ s.rest
nest_rest lexeme s t h = subst (KeepsRest s) h (nest_keeps lexeme s)

-- where the step leads on, fewer bytes are next
abbrev pub Shortens : State → Result State (Fault TokenFault) → Type 0
Shortens s (Ok t) = length t.rest < length s.rest
Shortens s (Err e) = Unit {0}

drops : (extent x : Extent) (s t : State) → x ≡ extent → IsPart s.rest extent → t.rest ≡ drop extent.len s.rest → length t.rest < length s.rest
drops extent x s t _ part e = let l = ap length e ∙ length-drop extent.len s.rest in let a = part.some in let b = part.within in omega arith

end_line_shortens : (os : List OpenBracket) (margin : Option Margin) (extent : Extent) (s : State) → IsPart s.rest extent → length (end_line_by os margin extent s).rest < length s.rest
end_line_shortens (o ∷ os) margin extent s part = drops extent extent s (skip extent s) refl part refl
end_line_shortens [] (Some m) extent s part = drops extent extent s (skip extent s) refl part refl
end_line_shortens [] None extent s part = drops extent extent s (skip extent s) refl part refl

module _ (lexeme : Lexeme) (extent : Extent) (s : State) (part : IsPart s.rest extent) where
  nested : (t : State) → t.rest ≡ s.rest → (r : Result State (Fault TokenFault)) → KeepsRest t r → Shortens s (and_then r (λ u. Ok (push_token (kind_of lexeme) extent u)))
  nested t same (Ok u) keeps = drops extent extent s (push_token (kind_of lexeme) extent u) refl part (ap (drop extent.len) (keeps ∙ same))
  nested t same (Err e) keeps = tt

  indented : (r : Result State (Fault TokenFault)) → KeepsRest s r → Shortens s (and_then r (λ t. and_then (nest lexeme t) (λ u. Ok (push_token (kind_of lexeme) extent u))))
  indented (Ok t) keeps = nested t keeps (nest lexeme t) (nest_keeps lexeme t)
  indented (Err e) keeps = tt

refused : (fault : Fault TokenFault) (s : State) (r : Result State (Fault TokenFault)) → Shortens s (and_then r (λ t. Err fault))
refused fault s (Ok t) = tt
refused fault s (Err e) = tt

advances : (p : Piece) (s : State) → Fits s.rest p → Shortens s (advance p s)
unfolding end_line take_token refuse
advances (Gap extent) s part = drops extent extent s (skip extent s) refl part refl
advances (LineEnd extent) s part = end_line_shortens s.open_brackets s.margin extent s part
advances (Lexed lexeme extent) s part = indented lexeme extent s part (indent s) (indent_keeps s)
advances (Bad kind lines) s part = refused _ s (indent s)

steps_on : (s : State) → 0 < length s.rest → Shortens s (step s)
unfolding step
steps_on s some = advances (next_piece s.rest) s (fits s.rest some)

pub step_shortens : (s t : State) → 0 < length s.rest → step s ≡ Ok t → length t.rest < length s.rest
step_shortens s t some h = subst (Shortens s) h (steps_on s some)
