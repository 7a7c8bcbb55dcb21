use Rattle.std.proofs.Common.{ℕ}
use Rattle.bq_builtin_strings.proofs.Slices.{elements_of_slice}
use Rattle.bq_builtin_strings.proofs.number_laws.elements_of_a_slice.Goals as goal

pub returns : goal.returns
returns c = elements_of_slice {A = ℕ}
