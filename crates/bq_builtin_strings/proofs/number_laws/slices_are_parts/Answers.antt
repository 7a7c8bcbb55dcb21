use Rattle.std.proofs.Common.{ℕ}
use Rattle.bq_builtin_strings.proofs.SliceCuts.{part_from_start, part_from_end, past_the_ends}
use Rattle.bq_builtin_strings.proofs.number_laws.slices_are_parts.Goals as goal

pub returns-clause-from_start : goal.returns-clause-from_start
returns-clause-from_start c = part_from_start {A = ℕ}

pub returns-clause-from_end : goal.returns-clause-from_end
returns-clause-from_end c = part_from_end {A = ℕ}

pub returns-clause-past_the_ends : goal.returns-clause-past_the_ends
returns-clause-past_the_ends c = past_the_ends {A = ℕ}
