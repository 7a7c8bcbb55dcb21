-- What a query's text is cut into: its tokens, or nothing where a byte begins no token.
use Rattle.std.specs.Prelude.{ℕ, ◌+◌, ◌<◌, ◌≤◌, List, [], ◌∷◌, drop, Option, Some, None, option_map, ◌≡◌}
use Rattle.bq_query_lex.specs.declared.token.QueryTokenKind.{QueryTokenKind}
use Rattle.bq_query_lex.specs.declared.token.QueryToken.{QueryToken}
use Rattle.bq_query_lex.specs.declared.lexis.QueryPiece.{QueryPiece}
use Rattle.bq_query_lex.specs.declared.lexis.QueryPiece.TheVariants.{End, Blank, Found, Unknown}
use Rattle.bq_query_lex.specs.Lexis.{piece_of}

-- a token of n bytes before those of the rest
abbrev pub before : QueryTokenKind → ℕ → ℕ → Option (List QueryToken) → Option (List QueryToken)
before kind start n more = option_map (λ ts. record { kind = kind; start = start; end = start + n } ∷ ts) more

-- the text, which begins at the offset `start`, is cut into these tokens, or into none
pub data Reads : List ℕ → ℕ → Option (List QueryToken) → Type 0 where
  ended : {text : List ℕ} {start : ℕ} → piece_of text ≡ End → Reads text start (Some [])
  blank : {text : List ℕ} {start : ℕ} {more : Option (List QueryToken)} → piece_of text ≡ Blank → Reads (drop 1 text) (start + 1) more → Reads text start more
  token : {text : List ℕ} {start n : ℕ} {kind : QueryTokenKind} {more all : Option (List QueryToken)} → piece_of text ≡ Found kind n → Reads (drop n text) (start + n) more → all ≡ before kind start n more → Reads text start all
  unknown : {text : List ℕ} {start : ℕ} → piece_of text ≡ Unknown → Reads text start None

-- a piece is in the text, and takes some of it
abbrev pub IsWithin : QueryPiece → ℕ → Type 0
IsWithin End n = Unit {0}
IsWithin Blank n = 0 < n
IsWithin (Found kind m) n = (0 < m) × (m ≤ n)
IsWithin Unknown n = Unit {0}
