use Rattle.std.proofs.Common.{ℕ}
use Rattle.bq_builtin_strings.proofs.SliceCuts.{place_from_start, place_from_end, places_past}
use Rattle.bq_builtin_strings.proofs.number_laws.places_count_from_both_ends.Goals as goal

pub returns-clause-from_start : goal.returns-clause-from_start
returns-clause-from_start c = place_from_start {A = ℕ}

pub returns-clause-from_end : goal.returns-clause-from_end
returns-clause-from_end c = place_from_end {A = ℕ}

pub returns-clause-past : goal.returns-clause-past
returns-clause-past c = places_past
