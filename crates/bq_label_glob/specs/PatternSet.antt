-- Patterns that names are matched against together.
use Rattle.std.specs.Prelude.{ℕ, List, Bool, ◌||◌}
use Rattle.std.specs.List.{list_any}
use Rattle.bq_base_texts.specs.NameSet.{has}
use Rattle.bq_label_glob.specs.Matching.{matches}
use Rattle.bq_label_glob.specs.declared.pattern_set.PatternSet.{PatternSet}

-- the name is one of the patterns without a star, or one of the others matches it
abbrev pub is_match : PatternSet → List ℕ → Bool
is_match set name = has set.plain name || list_any (λ p. matches p name) set.starred
