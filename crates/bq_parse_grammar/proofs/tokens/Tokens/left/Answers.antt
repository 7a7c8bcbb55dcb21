use Rattle.std.proofs.Common.{rules, arith}
use Rattle.bq_parse_grammar.proofs.Ahead.{as_many}
use Rattle.bq_parse_grammar.proofs.tokens.Tokens.left.Goals as goal

pub returns : goal.returns
returns c = first_of (search (rules, as_many), grind (arith, as_many))
