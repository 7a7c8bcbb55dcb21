use Rattle.std.proofs.Common.{◌≡◌, ◌+◌, ◌-◌, ◌≤◌, length, drop}
use Rattle.std.specs.List.{prefix_len}
use Rattle.bq_source.specs.Number.{is_number_byte}
use Rattle.bq_source.proofs.number.number_len.Given as goal

abbrev pub invariant-loop-n : goal.invariant-loop-n
invariant-loop-n l = record { run : prefix_len is_number_byte l.text ≡ l.n + prefix_len is_number_byte (drop l.n l.text); within : l.n ≤ length l.text }

abbrev pub decreases-loop-n : goal.decreases-loop-n
decreases-loop-n l = length l.text - l.n
