-- the parameters that are left decide
use Rattle.std.proofs.Common.{◌≡◌, drop}
use Rattle.bq_eval_rules.specs.Direct.{are_direct}
use Rattle.bq_eval_rules.proofs.direct.are_direct.Given as goal

abbrev pub invariant-loop-i : goal.invariant-loop-i
invariant-loop-i l = are_direct l.i (drop l.i l.parameters) ≡ are_direct 0 l.parameters
