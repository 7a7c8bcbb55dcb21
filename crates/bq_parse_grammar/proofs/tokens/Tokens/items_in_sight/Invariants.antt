-- no more items than tokens that were looked at
use Rattle.std.proofs.Common.{◌≤◌}
use Rattle.bq_parse_grammar.proofs.tokens.Tokens.items_in_sight.Given as goal

abbrev pub invariant-loop-at : goal.invariant-loop-at
invariant-loop-at l = l.items ≤ l.at
