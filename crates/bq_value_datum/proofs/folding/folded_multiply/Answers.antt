use mathlib.Core.Path.{refl}
use Rattle.bq_value_datum.specs.Folding.{folded_multiply}
use Rattle.bq_value_datum.proofs.folding.folded_multiply.Goals as goal

pub returns : goal.returns
unfolding folded_multiply
returns c = refl
