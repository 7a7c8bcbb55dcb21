use Rattle.bq_value.proofs.Identity.{attributes_by_parts, attributes_in_a_step}
use Rattle.bq_value.proofs.walk_laws.attributes_are_equal_by_what_they_say.Goals as goal

pub returns-clause-parts : goal.returns-clause-parts
returns-clause-parts c = attributes_by_parts

pub returns-clause-step : goal.returns-clause-step
returns-clause-step c = attributes_in_a_step
