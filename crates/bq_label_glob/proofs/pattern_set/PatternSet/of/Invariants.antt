use Rattle.std.proofs.Common.{◌≡◌, ◌||◌, List, ℕ, drop}
use Rattle.std.specs.List.{list_any}
use Rattle.bq_label_glob.specs.Matching.{matches}
use Rattle.bq_label_glob.specs.PatternSet.{is_match}
use Rattle.bq_label_glob.proofs.pattern_set.PatternSet.of.Given as goal

-- those that are added, with those that are left
abbrev pub invariant-loop-pattern : goal.invariant-loop-pattern
invariant-loop-pattern l = (name : List ℕ) → (is_match l.set name || list_any (λ p. matches p name) (drop l.pattern-index l.patterns)) ≡ list_any (λ p. matches p name) l.patterns
