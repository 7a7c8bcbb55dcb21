use Rattle.std.proofs.Common.{◌≡◌, ◌+◌, ◌-◌, ◌≤◌, length, drop}
use Rattle.std.specs.List.{prefix_len}
use Rattle.bq_source.specs.StringLiteral.{is_plain}
use Rattle.bq_source.proofs.string_literal.past_plain.Given as goal

abbrev pub invariant-loop-end : goal.invariant-loop-end
invariant-loop-end l = record { run : l.at + prefix_len (is_plain l.quote) (drop l.at l.text) ≡ l.end + prefix_len (is_plain l.quote) (drop l.end l.text); within : l.end ≤ length l.text }

abbrev pub decreases-loop-end : goal.decreases-loop-end
decreases-loop-end l = length l.text - l.end
