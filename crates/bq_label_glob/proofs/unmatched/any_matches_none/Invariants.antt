use Rattle.std.proofs.Common.{◌≡◌, drop}
use Rattle.std.specs.Prelude.{not}
use Rattle.std.specs.List.{list_any}
use Rattle.bq_label_glob.specs.Matching.{matches}
use Rattle.bq_label_glob.proofs.unmatched.any_matches_none.Given as goal

abbrev pub invariant-loop-pattern : goal.invariant-loop-pattern
invariant-loop-pattern l = list_any (λ p. not (list_any (matches p) l.names)) l.patterns ≡ list_any (λ p. not (list_any (matches p) l.names)) (drop l.pattern-index l.patterns)
