use Rattle.bq_package_attributes.proofs.RuleRefusals.{refused_in_order}
use Rattle.bq_package_attributes.proofs.rule_laws.rules_are_refused_in_order.Goals as goal

pub returns : goal.returns
returns c = refused_in_order
