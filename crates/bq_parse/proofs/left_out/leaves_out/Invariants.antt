use Rattle.std.proofs.Common.{◌≡◌, length}
use Rattle.bq_parse_grammar.specs.LeftOut.{leaves_out}
use Rattle.bq_parse.proofs.left_out.leaves_out.Given as goal

abbrev pub invariant-tokens : goal.invariant-tokens
invariant-tokens l = leaves_out l.tokens ≡ leaves_out l.rest

abbrev pub decreases-tokens : goal.decreases-tokens
decreases-tokens l = length l.rest
