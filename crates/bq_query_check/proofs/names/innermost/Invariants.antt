use Rattle.std.proofs.Common.{◌≢◌, ◌≤◌, ℕ, length, Some, slice_get}
use Rattle.bq_query_check.proofs.names.innermost.Given as goal

abbrev pub invariant-loop-at : goal.invariant-loop-at
invariant-loop-at l = record { within : l.at ≤ length l.names; later : (k : ℕ) → l.at ≤ k → slice_get l.names k ≢ Some l.name }

abbrev pub decreases-loop-at : goal.decreases-loop-at
decreases-loop-at l = l.at
