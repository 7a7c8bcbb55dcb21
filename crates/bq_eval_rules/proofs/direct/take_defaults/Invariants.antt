-- the parameters that are left decide
use Rattle.std.proofs.Common.{◌≡◌, drop}
use Rattle.bq_eval_rules.specs.Direct.{with_defaults}
use Rattle.bq_eval_rules.proofs.direct.take_defaults.Given as goal

abbrev pub invariant-loop-i : goal.invariant-loop-i
invariant-loop-i l = with_defaults l.i (drop l.i l.parameters) l.left l.values.items ≡ with_defaults 0 l.parameters l.fn.defaults l.fn.values.items
