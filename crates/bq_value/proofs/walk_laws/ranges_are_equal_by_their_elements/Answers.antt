use Rattle.bq_value.proofs.EqualRanges.{ranges_by_elements}
use Rattle.bq_value.proofs.walk_laws.ranges_are_equal_by_their_elements.Goals as goal

pub returns : goal.returns
returns c = ranges_by_elements
