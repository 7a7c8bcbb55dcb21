use Rattle.std.proofs.Common.{ℕ}
use Rattle.bq_builtin_strings.proofs.SliceCuts.{backwards}
use Rattle.bq_builtin_strings.proofs.number_laws.a_slice_backwards.Goals as goal

pub returns : goal.returns
returns c = backwards {A = ℕ}
