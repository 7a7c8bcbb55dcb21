-- The tokens found so far, and those that the rest of the text is cut into.
use Rattle.std.proofs.Common.{◌≡◌, ℕ, ◌+◌, ◌-◌, List, [], ◌∷◌, ◌++◌, length, take, drop, refl, sym, ap, ◌∙◌, subst, append-nil, length-drop}
use Rattle.std.specs.Prelude.{Option, Some, None, option_map}
use Rattle.std.proofs.lemmas.List.{append_assoc, drop-drop, take_rest}
use Rattle.bq_query_lex.specs.declared.token.QueryTokenKind.{QueryTokenKind}
use Rattle.bq_query_lex.specs.declared.token.QueryToken.{QueryToken}
use Rattle.bq_query_lex.specs.declared.lexis.QueryPiece.{QueryPiece}
use Rattle.bq_query_lex.specs.declared.lexis.QueryPiece.TheVariants.{End, Blank, Found, Unknown}
use Rattle.bq_query_lex.specs.Lexis.{piece_of}
use Rattle.bq_query_lex.specs.Reading.{Reads, ended, blank, token, unknown, before, IsWithin}
use Rattle.bq_query_lex.proofs.Within.{within}

-- whatever the rest is cut into, the text is cut into the tokens so far and that
abbrev pub IsCut : List ℕ → ℕ → List QueryToken → Type 0
IsCut text start tokens = (r : Option (List QueryToken)) → Reads (drop start text) start r → Reads text 0 (option_map (λ ts. tokens ++ ts) r)

pub cut_none : (text : List ℕ) → IsCut text 0 []
cut_none text None h = h
cut_none text (Some ts) h = h

pub cut_blank : (text : List ℕ) (start : ℕ) (tokens : List QueryToken) → piece_of (drop start text) ≡ Blank → IsCut text start tokens → IsCut text (start + 1) tokens
cut_blank text start tokens e c r h = c r (blank e (subst (λ (xs : List ℕ). Reads xs (start + 1) r) (sym (drop-drop 1 start text)) h))

joined : (tokens : List QueryToken) (t : QueryToken) (r : Option (List QueryToken)) → option_map (λ ts. tokens ++ ts) (option_map (λ ts. t ∷ ts) r) ≡ option_map (λ ts. (tokens ++ t ∷ []) ++ ts) r
joined tokens t None = refl
joined tokens t (Some ts) = ap Some (sym (append_assoc tokens (t ∷ []) ts))

pub cut_token : (text : List ℕ) (start : ℕ) (tokens : List QueryToken) (kind : QueryTokenKind) (n : ℕ) → piece_of (drop start text) ≡ Found kind n → IsCut text start tokens → IsCut text (start + n) (tokens ++ record { kind = kind; start = start; end = start + n } ∷ [])
cut_token text start tokens kind n e c r h =
    subst (Reads text 0) (joined tokens (record { kind = kind; start = start; end = start + n }) r)
    (c (before kind start n r) (token e (subst (λ (xs : List ℕ). Reads xs (start + n) r) (sym (drop-drop n start text)) h) refl))

pub cut_all : (text : List ℕ) (start : ℕ) (tokens : List QueryToken) → piece_of (drop start text) ≡ End → IsCut text start tokens → Reads text 0 (Some tokens)
cut_all text start tokens e c = subst (λ (ts : List QueryToken). Reads text 0 (Some ts)) (append-nil tokens) (c (Some []) (ended e))

pub cut_unknown : (text : List ℕ) (start : ℕ) (tokens : List QueryToken) → piece_of (drop start text) ≡ Unknown → IsCut text start tokens → Reads text 0 None
cut_unknown text start tokens e c = c None (unknown e)

-- where the piece ends
pub fits : (text : List ℕ) (start : ℕ) (p : QueryPiece) → p ≡ piece_of (drop start text) → IsWithin p (length text - start)
fits text start p e = subst (λ q. IsWithin q (length text - start)) (sym e) (subst (λ n. IsWithin (piece_of (drop start text)) n) (length-drop start text) (within (drop start text)))

-- `&text[start..]`
pub at_rest : (text : List ℕ) (start : ℕ) (p : QueryPiece) → p ≡ piece_of (take (length text - start) (drop start text)) → p ≡ piece_of (drop start text)
at_rest text start p e = e ∙ ap piece_of (take_rest text start)
