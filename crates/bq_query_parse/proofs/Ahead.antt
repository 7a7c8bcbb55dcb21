-- What a place in the tokens shows.
use Rattle.std.proofs.Common.{◌≡◌, ℕ, suc, List, [], ◌∷◌, length, refl, ap}
use Rattle.bq_query_lex.specs.declared.token.QueryToken.{QueryToken}
use Rattle.bq_query_parse.specs.Lexeme.{lexemes}

pub as_many : (text : List ℕ) (ts : List QueryToken) → length (lexemes text ts) ≡ length ts
as_many text [] = refl
as_many text (t ∷ ts) = ap suc (as_many text ts)
