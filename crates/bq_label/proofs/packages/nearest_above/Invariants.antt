use Rattle.std.proofs.Common.{◌≡◌, ◌≤◌, ◌<◌, ℕ, None, length, take, slice_index}
use Rattle.bq_label.specs.Label.{package_at}
use Rattle.bq_label.specs.Packages.{package_named}
use Rattle.bq_label.proofs.packages.nearest_above.Given as goal

abbrev pub invariant-loop-at : goal.invariant-loop-at
invariant-loop-at l = (l.at ≤ length l.rest) × ((k : ℕ) → l.at ≤ k → k < length l.rest → slice_index l.rest k ≡ 47 → package_named l.packages (package_at l.repo (take k l.rest)) ≡ None)

abbrev pub decreases-loop-at : goal.decreases-loop-at
decreases-loop-at l = l.at
