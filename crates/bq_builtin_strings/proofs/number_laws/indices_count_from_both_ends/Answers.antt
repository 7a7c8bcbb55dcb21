use Rattle.std.proofs.Common.{ℕ}
use Rattle.bq_builtin_strings.proofs.SliceCuts.{index_from_start, index_from_end, index_past}
use Rattle.bq_builtin_strings.proofs.number_laws.indices_count_from_both_ends.Goals as goal

pub returns-clause-from_start : goal.returns-clause-from_start
returns-clause-from_start c = index_from_start {A = ℕ}

pub returns-clause-from_end : goal.returns-clause-from_end
returns-clause-from_end c = index_from_end {A = ℕ}

pub returns-clause-past : goal.returns-clause-past
returns-clause-past c = index_past
