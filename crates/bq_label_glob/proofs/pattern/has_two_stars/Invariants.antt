use Rattle.std.proofs.Common.{◌≡◌, length}
use Rattle.bq_label_glob.specs.Pattern.{has_two_stars}
use Rattle.bq_label_glob.proofs.pattern.has_two_stars.Given as goal

abbrev pub invariant-loop-rest : goal.invariant-loop-rest
invariant-loop-rest l = has_two_stars l.segment ≡ has_two_stars l.rest

abbrev pub decreases-loop-rest : goal.decreases-loop-rest
decreases-loop-rest l = length l.rest
