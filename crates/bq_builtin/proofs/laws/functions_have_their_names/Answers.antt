use Rattle.std.proofs.Common.{refl}
use Rattle.bq_builtin.proofs.laws.functions_have_their_names.Goals as goal

pub returns : goal.returns
returns c = refl
