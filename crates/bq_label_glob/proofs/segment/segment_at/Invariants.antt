use Rattle.std.proofs.Common.{length, ◌-◌, ◌<◌, ◌≤◌, ◌≢◌, ℕ, slice_index}
use Rattle.bq_label_glob.proofs.segment.segment_at.Given as goal

abbrev pub invariant-loop-len : goal.invariant-loop-len
invariant-loop-len l = record { inside : l.len ≤ length l.rest; before : (k : ℕ) → k < l.len → slice_index l.rest k ≢ 47 }

abbrev pub decreases-loop-len : goal.decreases-loop-len
decreases-loop-len l = length l.rest - l.len
