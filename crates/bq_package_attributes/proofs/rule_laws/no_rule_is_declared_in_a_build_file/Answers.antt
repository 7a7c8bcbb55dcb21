use Rattle.bq_package_attributes.proofs.RuleRefusals.{none_in_build}
use Rattle.bq_package_attributes.proofs.rule_laws.no_rule_is_declared_in_a_build_file.Goals as goal

pub returns : goal.returns
returns c = none_in_build
