use Rattle.std.proofs.Common.{◌≡◌, ◌++◌, ◌-◌}
use Rattle.bq_value.specs.Range.{range_element}
use Rattle.bq_builtin_strings.specs.Slice.{taken, taken_by}
use Rattle.bq_builtin_operators.proofs.sequence.take_bytes.Given as goal

abbrev pub invariant-loop-number : goal.invariant-loop-number
invariant-loop-number l =
    l.taken.items ++ taken l.text (l.count - l.number) (range_element l.places.start l.places.step l.number) l.places.step ≡ taken_by l.text l.places.start l.places.stop l.places.step
