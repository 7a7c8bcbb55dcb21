use Rattle.std.proofs.Common.{◌≡◌, ◌≤◌, ◌<◌, ◌-◌, ℕ, length, true, false}
use Rattle.bq_query_function.specs.Order.{is_below}
use Rattle.bq_query_function.proofs.Ranks.{text_at}
use Rattle.bq_query_function.proofs.order.place_of.Given as goal

abbrev pub invariant-loop-low : goal.invariant-loop-low
invariant-loop-low l = record {
  ordered : l.low ≤ l.high;
  within : l.high ≤ length l.targets;
  before : (k : ℕ) → k < l.low → is_below (text_at l.targets k) l.text ≡ true;
  after : (k : ℕ) → l.high ≤ k → k < length l.targets → is_below (text_at l.targets k) l.text ≡ false;
}

abbrev pub decreases-loop-low : goal.decreases-loop-low
decreases-loop-low l = l.high - l.low
