use Rattle.std.proofs.Common.{ap, length}
use Rattle.bq_package_schema.specs.Schema.{after}
use Rattle.bq_package_schema.proofs.Lasts.{of_none}
use Rattle.bq_package_schema.proofs.laws.attributes_are_of_a_rule.Goals as goal

pub returns : goal.returns
unfolding after
returns c rules name attribute h = of_none rules.names rules.classes name attribute (ap length h)
