use Rattle.std.proofs.Common.{arith}
use Rattle.std.proofs.lemmas.Grind.{common_steps}
use Rattle.bq_value.specs.Datum.{list_of_data_of}
use Rattle.bq_value.proofs.key_walk.+walk.Goals as goal

pub walk_all-loop-value-preserved : goal.walk_all-loop-value-preserved
walk_all-loop-value-preserved t c = grind (arith, common_steps)

pub walk_all-returns-in_err-left : goal.walk_all-returns-in_err-left
walk_all-returns-in_err-left t c = grind (arith, common_steps)

pub walk-returns-in-Tuple : goal.walk-returns-in-Tuple
walk-returns-in-Tuple t c = grind (arith, common_steps, list_of_data_of)
