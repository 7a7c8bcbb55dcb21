-- the values that are left decide
use Rattle.std.proofs.Common.{◌≡◌, drop}
use Rattle.bq_package_values.specs.Steps.{in_turn}
use Rattle.bq_package_values.specs.Texts.{text_in, all_texts}
use Rattle.bq_package_values.proofs.texts.all_texts.Given as goal

abbrev pub invariant-loop-value : goal.invariant-loop-value
invariant-loop-value l = all_texts l.why l.values ≡ in_turn (text_in l.why) l.texts.items (drop l.value-index l.values)
