-- What a place in the tokens of a text shows: the tokens from it on, with their spellings.
use Rattle.std.specs.Prelude.{List, [], ◌∷◌, Option, Some, None, All}
use Rattle.bq_source.specs.Spelling.{Lies}
use Rattle.bq_source.specs.declared.token.TokenKind.{TokenKind}
use Rattle.bq_parse_grammar.specs.Lexeme.{Lexeme, lexemes}
use Rattle.bq_parse_grammar.specs.declared.tokens.Tokens.TheInside.{Inside}

-- the tokens from this place on, each with its kind, line and spelling
abbrev pub lexemes_ahead : Inside → List Lexeme
lexemes_ahead t = lexemes t.text.now t.rest.now

-- each token from this place on lies in the text, and each string literal among them has a value
abbrev pub IsInText : Inside → Type 0
IsInText t = All (Lies t.text.now) t.rest.now

-- the kind of the next token
abbrev pub kind_ahead : List Lexeme → Option TokenKind
kind_ahead [] = None
kind_ahead (t ∷ ts) = Some t.kind

-- what a table says of the next token
abbrev pub known_by : {B : Type 0} → (TokenKind → Option B) → Option TokenKind → Option B
known_by table None = None
known_by table (Some kind) = table kind
