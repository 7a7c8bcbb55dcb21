use Rattle.bq_value.proofs.EqualRanges.{functions_by_def}
use Rattle.bq_value.proofs.walk_laws.functions_are_equal_by_their_def.Goals as goal

pub returns : goal.returns
returns c = functions_by_def
