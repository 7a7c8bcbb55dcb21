use Rattle.std.proofs.Common.{arith}
use Rattle.std.proofs.lemmas.Grind.{common_steps}
use Rattle.bq_package_values.specs.Steps.{in_turn}
use Rattle.bq_package_values.specs.Texts.{all_texts}
use Rattle.bq_package_values.proofs.texts.all_texts.Goals as goal

pub loop-value-preserved : goal.loop-value-preserved
unfolding all_texts in_turn
loop-value-preserved c = grind (arith, common_steps)

pub returns-in_err-text_in : goal.returns-in_err-text_in
unfolding all_texts in_turn
returns-in_err-text_in c = grind (arith, common_steps)
