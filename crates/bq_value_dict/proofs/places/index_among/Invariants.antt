use Rattle.std.proofs.Common.{◌-◌, ◌<◌, ◌≤◌, ℕ, length, get_or}
use Rattle.bq_value_dict.proofs.places.index_among.Given as goal

abbrev pub invariant-loop-at : goal.invariant-loop-at
invariant-loop-at l = record { within : l.at ≤ length l.empty; before : (j : ℕ) → j < l.at → get_or l.empty j 0 ≤ l.index }

abbrev pub decreases-loop-at : goal.decreases-loop-at
decreases-loop-at l = length l.empty - l.at
