use Rattle.std.proofs.Common.{◌≡◌, Some, arith}
use Rattle.bq_source.specs.declared.token.TokenKind.TheVariants as k
use Rattle.bq_parse_grammar.specs.Lexeme.{lexemes}
use Rattle.bq_parse_grammar.specs.Reading.{spelling_of}
use Rattle.bq_parse_grammar.specs.Tokens.{kind_ahead}
use Rattle.bq_parse_grammar.proofs.Ahead.{string_ahead}
use Rattle.bq_parse_grammar.proofs.tokens.Tokens.text.Goals as goal

pub string_value-requires : goal.string_value-requires
string_value-requires c =
    let here = lexemes c.self.inside.text.now c.self.inside.rest.now in
    let next_is : kind_ahead here ≡ Some k.String = grind arith in
    let spelled : c.spelling.result.now ≡ spelling_of here = grind arith in
    rw spelled (string_ahead c.self.inside.text.now c.self.inside.rest.now c.self.invariant next_is)
