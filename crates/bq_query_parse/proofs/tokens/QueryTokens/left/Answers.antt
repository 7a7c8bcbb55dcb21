use Rattle.std.proofs.Common.{rules, arith}
use Rattle.bq_query_parse.proofs.Ahead.{as_many}
use Rattle.bq_query_parse.proofs.tokens.QueryTokens.left.Goals as goal

pub returns : goal.returns
returns c = first_of (search (rules, as_many), grind (arith, as_many))
