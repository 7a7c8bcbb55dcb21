use Rattle.std.proofs.Common.{ℕ}
use Rattle.bq_builtin_strings.proofs.Slices.{whole_slice}
use Rattle.bq_builtin_strings.proofs.number_laws.a_whole_slice.Goals as goal

pub returns : goal.returns
returns c = whole_slice {A = ℕ}
