-- those that are left decide
use Rattle.std.proofs.Common.{◌≡◌, drop}
use Rattle.bq_builtin.specs.Truths.{one_counts}
use Rattle.bq_builtin.proofs.truths.one_counts.Given as goal

abbrev pub invariant-loop-value : goal.invariant-loop-value
invariant-loop-value l = one_counts l.store l.wanted (drop l.value-index l.values) ≡ one_counts l.store l.wanted l.values
