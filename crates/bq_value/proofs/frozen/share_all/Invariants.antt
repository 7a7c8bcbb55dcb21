-- sharing changes nothing of what cells hold
use Rattle.std.proofs.Common.{◌≡◌}
use Rattle.bq_value.proofs.frozen.share_all.Given as goal

abbrev pub invariant-loop-content : goal.invariant-loop-content
invariant-loop-content l = l.contents ≡ l.fn.contents
