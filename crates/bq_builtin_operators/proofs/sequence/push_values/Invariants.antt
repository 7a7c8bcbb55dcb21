use Rattle.std.proofs.Common.{◌≡◌, ◌++◌, ◌-◌}
use Rattle.bq_builtin_strings.specs.Length.{times_of}
use Rattle.bq_builtin_operators.specs.Sequence.{copies}
use Rattle.bq_builtin_operators.proofs.sequence.push_values.Given as goal

abbrev pub invariant-loop-turn : goal.invariant-loop-turn
invariant-loop-turn l = l.values.items ++ copies l.xs (l._turn-end - l._turn) ≡ l.fn.values.items ++ copies l.xs (times_of l.times)
