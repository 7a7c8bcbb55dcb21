use Rattle.std.proofs.Common.{refl}
use Rattle.bq_package_schema.specs.Reading.{schema_of, lines}
use Rattle.bq_package_schema.specs.Schema.{no_rules}
use Rattle.bq_package_schema.proofs.Differ.{all_are}
use Rattle.bq_package_schema.proofs.laws.names_differ.Goals as goal

pub returns : goal.returns
unfolding schema_of
returns c text rules h = all_are (lines text) no_rules 0 rules (record { rules_differ = tt; attributes_differ = tt; as_many = refl }) h
