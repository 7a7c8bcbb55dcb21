use Rattle.std.proofs.Common.{◌≡◌, Some, rules, arith}
use Rattle.std.proofs.lemmas.Grind.{common_steps}
use Rattle.bq_source.specs.declared.token.TokenKind.TheVariants as k
use Rattle.bq_parse_grammar.specs.Reading.{phrase, variables_to}
use Rattle.bq_parse_grammar.specs.Tokens.{kind_ahead}
use Rattle.bq_parse_expression.proofs.Ahead.{word_is_operand}
use Rattle.bq_parse_expression.proofs.grammar.Grammar.operand.Goals as goal

pub returns-in_err-word-in-Some-Identifier : goal.returns-in_err-word-in-Some-Identifier
returns-in_err-word-in-Some-Identifier g c =
    let next_is : kind_ahead c.args.tokens.now ≡ Some k.Identifier = grind arith in
    let named = word_is_operand (phrase c.args.self.now.depth) (variables_to c.args.self.now.depth) c.args.tokens.now next_is in
    first_of (search rules, grind (arith, common_steps, named))
