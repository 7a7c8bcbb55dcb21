use Rattle.std.proofs.Common.{◌≡◌, length}
use Rattle.bq_parse_grammar.specs.Nesting.{nests}
use Rattle.bq_parse.proofs.nesting.nests.Given as goal

abbrev pub invariant-tokens : goal.invariant-tokens
invariant-tokens l = nests 0 l.tokens ≡ nests l.opened l.rest

abbrev pub decreases-tokens : goal.decreases-tokens
decreases-tokens l = length l.rest
