-- what the key's rank is from here on
use Rattle.std.proofs.Common.{◌≡◌, ◌+◌, ◌-◌, ◌≤◌, drop, length}
use Rattle.bq_value_dict.specs.Places.{rank}
use Rattle.bq_value_dict.proofs.few.index_of.Given as goal

abbrev pub invariant-loop-at : goal.invariant-loop-at
invariant-loop-at l = record { within : l.at ≤ length l.pairs; rest : rank l.key l.pairs ≡ l.at + rank l.key (drop l.at l.pairs) }

abbrev pub decreases-loop-at : goal.decreases-loop-at
decreases-loop-at l = length l.pairs - l.at
