use Rattle.std.proofs.Common.{◌≡◌, length}
use Rattle.bq_label_glob.specs.Matching.{matches}
use Rattle.bq_label_glob.proofs.matching.is_match.Given as goal

abbrev pub invariant-ends : goal.invariant-ends
invariant-ends l = matches l.fn.pattern l.fn.path ≡ matches l.wanted l.rest

abbrev pub decreases-ends : goal.decreases-ends
decreases-ends l = length l.wanted
