-- The tokens of a reading spell the text.
use Rattle.std.proofs.Common.{◌≡◌, ℕ, ◌+◌, true, List, [], ◌∷◌, take, drop, refl, sym, ap, subst, arith}
use Rattle.std.specs.Prelude.{Option, Some, None}
use Rattle.std.specs.List.{list_all}
use Rattle.std.proofs.lemmas.List.{take-append-drop, length-take-le}
use Rattle.std.proofs.lemmas.Bool.{and_from}
use Rattle.bq_query_lex.specs.declared.token.QueryTokenKind.{QueryTokenKind}
use Rattle.bq_query_lex.specs.declared.token.QueryToken.{QueryToken}
use Rattle.bq_query_lex.specs.declared.lexis.QueryPiece.{QueryPiece}
use Rattle.bq_query_lex.specs.declared.lexis.QueryPiece.TheVariants.{End, Blank, Found}
use Rattle.bq_query_lex.specs.Lexis.{piece_of, is_blank}
use Rattle.bq_query_lex.specs.Reading.{Reads, ended, blank, token, unknown, before}
use Rattle.bq_query_lex.specs.Laws.{AreTokensOf, none, next}
use Rattle.bq_query_lex.proofs.Within.{Front, empty, a_blank, a_token, front}

abbrev pub AsTokens : List ℕ → ℕ → Option (List QueryToken) → Type 0
AsTokens text start None = Unit {0}
AsTokens text start (Some ts) = AreTokensOf text start ts

at_front : (text : List ℕ) (p : QueryPiece) → piece_of text ≡ p → Front p text
at_front text p e = subst (λ q. Front q text) e (front text)

no_token : (text : List ℕ) (start : ℕ) → Front End text → AreTokensOf text start []
no_token text start empty = none refl

-- one more blank in front
past_blank : (b : ℕ) (bs : List ℕ) (start : ℕ) (ts : List QueryToken) → is_blank b ≡ true → AreTokensOf bs (start + 1) ts → AreTokensOf (b ∷ bs) start ts
past_blank b bs start ts e (none all) = none (and_from (is_blank b) (list_all is_blank bs) e all)
past_blank b bs start ts e (next {word = w} {after = a} f text all spelled from to more) =
    next {word = w} {after = a} (b ∷ f) (ap (λ (xs : List ℕ). b ∷ xs) text) (and_from (is_blank b) (list_all is_blank f) e all) spelled (omega (arith, from)) to more

after_blank : (text : List ℕ) (start : ℕ) (r : Option (List QueryToken)) → Front Blank text → AsTokens (drop 1 text) (start + 1) r → AsTokens text start r
after_blank text start None f h = tt
after_blank text start (Some ts) (a_blank {b = b} {bs = bs} e) h = past_blank b bs start ts e h

after_token : (text : List ℕ) (start n : ℕ) (kind : QueryTokenKind) (r : Option (List QueryToken)) → Front (Found kind n) text → AsTokens (drop n text) (start + n) r → AsTokens text start (before kind start n r)
after_token text start n kind None f h = tt
after_token text start n kind (Some ts) (a_token l within spelled) h =
    next {word = take n text} {after = drop n text} [] (sym (take-append-drop n text)) refl spelled (omega arith) (omega (arith, length-take-le n text within)) h

pub spelled : (text : List ℕ) (start : ℕ) (r : Option (List QueryToken)) → Reads text start r → AsTokens text start r
spelled text start r (ended e) = no_token text start (at_front text End e)
spelled text start r (blank e more) = after_blank text start r (at_front text Blank e) (spelled (drop 1 text) (start + 1) r more)
spelled text start r (token {n = n} {kind = kind} {more = m} e more q) = subst (AsTokens text start) (sym q) (after_token text start n kind m (at_front text (Found kind n) e) (spelled (drop n text) (start + n) m more))
spelled text start r (unknown e) = tt
