-- What is looked for among the tokens, a token at a time.
use Rattle.std.specs.Prelude.{List, [], ◌∷◌, true, Bool, false, ◌&&◌, not}
use Rattle.std.specs.Str.{bytes_eq}
use Rattle.bq_source.specs.declared.token.TokenKind.{TokenKind}
use Rattle.bq_source.specs.declared.token.TokenKind.TheVariants as k
use Rattle.bq_parse_grammar.specs.Lexeme.{Lexeme}
use Rattle.bq_parse_grammar.specs.Reading.{spelling_of}
use Rattle.bq_parse_grammar.specs.Turns.{next}
use Rattle.bq_parse_grammar.specs.LeftOut.{native, calls_name, calls_method, kinds, leaves_out_by}

-- the next token is the name `native`, but not before `.name(`
abbrev pub uses_native : List Lexeme → Bool
uses_native ts = bytes_eq (spelling_of ts) native && not (calls_method (kinds (next ts)))

-- what is left out begins with the next token, which is of this kind
abbrev pub leaves_out_of : TokenKind → List Lexeme → Bool
leaves_out_of k.Lambda ts = true
leaves_out_of k.Slash ts = true
leaves_out_of k.SlashAssign ts = true
leaves_out_of k.Dot ts = not (calls_name (kinds (next ts)))
leaves_out_of k.Identifier ts = uses_native ts
leaves_out_of _ ts = false

-- what is left out begins with the next token
abbrev pub leaves_out_next : List Lexeme → Bool
leaves_out_next [] = false
leaves_out_next (t ∷ ts) = leaves_out_by t.kind t ts
