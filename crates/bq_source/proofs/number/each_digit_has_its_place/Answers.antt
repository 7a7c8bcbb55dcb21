use Rattle.bq_source.proofs.NumberLaws.{pushed}
use Rattle.bq_source.proofs.number.each_digit_has_its_place.Goals as goal

pub returns : goal.returns
returns c = pushed
