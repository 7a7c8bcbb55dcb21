-- with those that are still to come
use Rattle.std.proofs.Common.{◌≡◌, ◌++◌, ◌-◌, length, replicate, None}
use Rattle.bq_eval_rules.proofs.taking.no_values.Given as goal

abbrev pub invariant-loop-values : goal.invariant-loop-values
invariant-loop-values l = l.values.items ++ replicate (l.count - length l.values.items) None ≡ replicate l.count None

abbrev pub decreases-loop-values : goal.decreases-loop-values
decreases-loop-values l = l.count - length l.values.items
