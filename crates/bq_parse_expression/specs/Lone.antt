-- Phrases of one token: a name or a literal, and after it a token that goes on with no expression.
use Rattle.std.specs.Prelude.{List, Bool, true, false, ◌&&◌, Option, Some, None}
use Rattle.bq_source.specs.declared.token.TokenKind.{TokenKind}
use Rattle.bq_source.specs.declared.token.TokenKind.TheVariants as k
use Rattle.bq_parse_grammar.specs.Lexeme.{Lexeme}
use Rattle.bq_parse_grammar.specs.Turns.{next}
use Rattle.bq_parse_grammar.specs.Tokens.{kind_ahead}

-- a name or a literal
abbrev pub is_atom : TokenKind → Bool
is_atom k.Identifier = true
is_atom k.String = true
is_atom k.Int = true
is_atom _ = false

-- nothing that is done to an operand begins with it
abbrev pub ends_phrase : TokenKind → Bool
ends_phrase k.Comma = true
ends_phrase k.RightParen = true
ends_phrase k.RightBracket = true
ends_phrase k.RightBrace = true
ends_phrase k.Colon = true
ends_phrase k.Newline = true
ends_phrase _ = false

-- there is a token, and its kind passes the test
abbrev pub is_so : (TokenKind → Bool) → Option TokenKind → Bool
is_so test None = false
is_so test (Some q) = test q

-- an operand begins with it
abbrev pub begins_operand : TokenKind → Bool
begins_operand k.LeftParen = true
begins_operand k.LeftBracket = true
begins_operand k.LeftBrace = true
begins_operand q = is_atom q

-- there is a next token, and an operand begins with it
abbrev pub begins_with_operand : List Lexeme → Bool
begins_with_operand ts = is_so begins_operand (kind_ahead ts)

-- the next token is a phrase of its own
abbrev pub stands_alone : List Lexeme → Bool
stands_alone ts = is_so is_atom (kind_ahead ts) && is_so ends_phrase (kind_ahead (next ts))
