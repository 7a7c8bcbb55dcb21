use Rattle.std.proofs.Common.{ℕ}
use Rattle.bq_builtin_operators.proofs.Sequences.{copies_add, copies_length}
use Rattle.bq_builtin_operators.proofs.laws.repetition_adds.Goals as goal

pub returns-clause-copies : goal.returns-clause-copies
returns-clause-copies c = copies_add {A = ℕ}

pub returns-clause-len : goal.returns-clause-len
returns-clause-len c = copies_length {A = ℕ}
