use Rattle.std.proofs.Common.{◌≡◌, ◌++◌, drop}
use Rattle.bq_builtin_operators.proofs.sequence.push_shares.Given as goal

abbrev pub invariant-loop-value : goal.invariant-loop-value
invariant-loop-value l = l.values.items ++ drop l.value-index l.more ≡ l.fn.values.items ++ l.more
