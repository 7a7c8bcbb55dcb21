use Rattle.std.proofs.Common.{◌≡◌, ◌++◌, drop, pos}
use Rattle.std.specs.Prelude.{◌+ℤ◌}
use Rattle.bq_builtin.specs.Sequences.{numbered}
use Rattle.bq_builtin.proofs.sequences.numbered.Given as goal

abbrev pub invariant-loop-i : goal.invariant-loop-i
invariant-loop-i l = l.pairs.items ++ numbered (l.start +ℤ pos l.i) (drop l.i l.values) ≡ numbered l.start l.values
