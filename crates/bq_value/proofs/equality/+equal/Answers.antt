use Rattle.std.proofs.Common.{arith}
use Rattle.std.proofs.lemmas.Grind.{common_steps}
use Rattle.bq_value.specs.Datum.{list_of_data_of}
use Rattle.bq_value.proofs.equality.+equal.Goals as goal

pub slices_equal-loop-i-preserved : goal.slices_equal-loop-i-preserved
slices_equal-loop-i-preserved t c = grind (arith, common_steps)

pub values_equal-returns-in-Tuple : goal.values_equal-returns-in-Tuple
values_equal-returns-in-Tuple t c = grind (arith, common_steps, list_of_data_of)

pub slices_equal-returns-then-not-same : goal.slices_equal-returns-then-not-same
slices_equal-returns-then-not-same t c = grind (arith, common_steps)

pub slices_equal-returns-in_err-same : goal.slices_equal-returns-in_err-same
slices_equal-returns-in_err-same t c = grind (arith, common_steps)
