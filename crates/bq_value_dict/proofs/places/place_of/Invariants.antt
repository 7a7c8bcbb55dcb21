use Rattle.std.proofs.Common.{◌≡◌, ◌+◌, ◌-◌, ◌<◌, ◌≤◌, ℕ, suc, length, get_or}
use Rattle.bq_value_dict.proofs.places.place_of.Given as goal

abbrev pub invariant-loop-low : goal.invariant-loop-low
invariant-loop-low l = record {
  order : l.low ≤ l.high;
  within : l.high ≤ length l.empty;
  before : (j : ℕ) → suc j ≡ l.low → get_or l.empty j 0 ≤ l.index + j;
  after : l.high < length l.empty → l.index + l.high < get_or l.empty l.high 0;
}

abbrev pub decreases-loop-low : goal.decreases-loop-low
decreases-loop-low l = l.high - l.low
