-- What a place in the tokens of a query shows: the tokens from it on, with their spellings.
use Rattle.std.specs.Prelude.{ℕ, ◌≤◌, List, [], ◌∷◌, length, Bool, Option, Some, None, All}
use Rattle.bq_query_lex.specs.declared.token.QueryToken.{QueryToken}
use Rattle.bq_query_lex.specs.declared.token.QueryTokenKind.{QueryTokenKind}
use Rattle.bq_query_lex.specs.declared.token.QueryTokenKind.TheVariants as k
use Rattle.bq_query_parse.specs.Lexeme.{Lexeme, lexemes}
use Rattle.bq_query_parse.specs.Turns.{sees, next}
use Rattle.bq_query_parse.specs.declared.tokens.QueryTokens.TheInside.{Inside}

-- a token is a part of the text
abbrev pub IsInText : List ℕ → QueryToken → Type 0
IsInText text t = (t.start ≤ t.end) × (t.end ≤ length text)

-- the tokens from this place on, each with its kind and spelling
abbrev pub lexemes_ahead : Inside → List Lexeme
lexemes_ahead t = lexemes t.text.now t.rest.now

-- each token from this place on is a part of the text
abbrev pub AreInText : Inside → Type 0
AreInText t = All (IsInText t.text.now) t.rest.now

-- the kind of the next token
abbrev pub kind_ahead : List Lexeme → Option QueryTokenKind
kind_ahead [] = None
kind_ahead (t ∷ ts) = Some t.kind

-- the token after the next one is `let`
abbrev pub let_is_next : List Lexeme → Bool
let_is_next ts = sees k.Let (next ts)
