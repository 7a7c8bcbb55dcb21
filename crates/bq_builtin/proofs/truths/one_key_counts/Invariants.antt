-- those that are left decide
use Rattle.std.proofs.Common.{◌≡◌, drop}
use Rattle.bq_value.specs.Pairs.{keys}
use Rattle.bq_builtin.specs.Truths.{one_counts}
use Rattle.bq_builtin.proofs.truths.one_key_counts.Given as goal

abbrev pub invariant-loop-i : goal.invariant-loop-i
invariant-loop-i l = one_counts l.store l.wanted (keys (drop l.i l.dict)) ≡ one_counts l.store l.wanted (keys l.dict)
