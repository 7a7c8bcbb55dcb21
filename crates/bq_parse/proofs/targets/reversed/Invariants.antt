use Rattle.std.proofs.Common.{◌≡◌, ◌++◌, reverse, length}
use Rattle.bq_parse.proofs.targets.reversed.Given as goal

abbrev pub decreases-items : goal.decreases-items
decreases-items l = length l.items

abbrev pub invariant-items : goal.invariant-items
invariant-items l = reverse l.fn.items ≡ l.found ++ reverse l.items
