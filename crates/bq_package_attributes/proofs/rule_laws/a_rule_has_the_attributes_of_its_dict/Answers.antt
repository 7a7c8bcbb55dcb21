use Rattle.bq_package_attributes.proofs.DictEntries.{attributes_are}
use Rattle.bq_package_attributes.proofs.rule_laws.a_rule_has_the_attributes_of_its_dict.Goals as goal

pub returns : goal.returns
returns c = attributes_are
