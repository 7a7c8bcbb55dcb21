use Rattle.std.proofs.Common.{arith}
use Rattle.std.proofs.lemmas.Grind.{common_steps}
use Rattle.bq_value.specs.Datum.{list_of_data_of}
use Rattle.bq_value.proofs.boolean.truth.Goals as goal

pub returns-in-Tuple : goal.returns-in-Tuple
returns-in-Tuple c = grind (arith, common_steps, list_of_data_of)
