use Rattle.std.proofs.Common.{◌≡◌, length}
use Rattle.bq_parse_grammar.specs.LeftOut.{kinds, has_starred}
use Rattle.bq_parse.proofs.left_out.has_starred.Given as goal

abbrev pub invariant-tokens : goal.invariant-tokens
invariant-tokens l = has_starred (kinds l.tokens) ≡ has_starred (kinds l.rest)

abbrev pub decreases-tokens : goal.decreases-tokens
decreases-tokens l = length l.rest
