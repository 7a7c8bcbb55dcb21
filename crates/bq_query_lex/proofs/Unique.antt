-- A text has one reading alone.
use Rattle.std.proofs.Common.{◌≡◌, ℕ, ◌+◌, List, [], drop, refl, sym, ap, ◌∙◌, subst}
use Rattle.std.specs.Prelude.{Option, Some, None}
use Rattle.bq_query_lex.specs.declared.token.QueryTokenKind.{QueryTokenKind}
use Rattle.bq_query_lex.specs.declared.token.QueryToken.{QueryToken}
use Rattle.bq_query_lex.specs.declared.lexis.QueryPiece.{QueryPiece}
use Rattle.bq_query_lex.specs.declared.lexis.QueryPiece.TheVariants.{End, Blank, Found, Unknown}
use Rattle.bq_query_lex.specs.Lexis.{piece_of}
use Rattle.bq_query_lex.specs.Reading.{Reads, ended, blank, token, unknown, before}

-- what a piece at the front makes of a reading
pub data By (text : List ℕ) (start : ℕ) : QueryPiece → Option (List QueryToken) → Type 0 where
  by_end : By text start End (Some [])
  by_blank : {r : Option (List QueryToken)} → Reads (drop 1 text) (start + 1) r → By text start Blank r
  by_token : {n : ℕ} {kind : QueryTokenKind} {m : Option (List QueryToken)} → Reads (drop n text) (start + n) m → By text start (Found kind n) (before kind start n m)
  by_none : By text start Unknown None

by_piece : (text : List ℕ) (start : ℕ) (r : Option (List QueryToken)) → Reads text start r → By text start (piece_of text) r
by_piece text start r (ended e) = subst (λ p. By text start p (Some [])) (sym e) by_end
by_piece text start r (blank e h) = subst (λ p. By text start p r) (sym e) (by_blank h)
by_piece text start r (token {n = n} {kind = kind} {more = m} e h q) = subst (λ s. By text start (piece_of text) s) (sym q) (subst (λ p. By text start p (before kind start n m)) (sym e) (by_token h))
by_piece text start r (unknown e) = subst (λ p. By text start p None) (sym e) by_none

same_end : (text : List ℕ) (start : ℕ) (s : Option (List QueryToken)) → By text start End s → Some [] ≡ s
same_end text start s by_end = refl

same_none : (text : List ℕ) (start : ℕ) (s : Option (List QueryToken)) → By text start Unknown s → None ≡ s
same_none text start s by_none = refl

after_blank : (text : List ℕ) (start : ℕ) (s : Option (List QueryToken)) → By text start Blank s → Reads (drop 1 text) (start + 1) s
after_blank text start s (by_blank h) = h

after_token : (text : List ℕ) (start n : ℕ) (kind : QueryTokenKind) (s : Option (List QueryToken)) → By text start (Found kind n) s → (m : Option (List QueryToken)) × Reads (drop n text) (start + n) m × (s ≡ before kind start n m)
after_token text start n kind s (by_token {m = m} h) = (m, h, refl)

pub unique : (text : List ℕ) (start : ℕ) (r s : Option (List QueryToken)) → Reads text start r → Reads text start s → r ≡ s
unique text start r s (ended e) h = same_end text start s (subst (λ p. By text start p s) e (by_piece text start s h))
unique text start r s (blank e g) h = let k = after_blank text start s (subst (λ p. By text start p s) e (by_piece text start s h)) in unique (drop 1 text) (start + 1) r s g k
unique text start r s (token {n = n} {kind = kind} {more = m} e g q) h =
    let k = after_token text start n kind s (subst (λ p. By text start p s) e (by_piece text start s h)) in
    q ∙ ap (before kind start n) (unique (drop n text) (start + n) m k.0 g k.1) ∙ sym k.2
unique text start r s (unknown e) h = same_none text start s (subst (λ p. By text start p s) e (by_piece text start s h))
