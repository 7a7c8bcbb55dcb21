use Rattle.bq_package_values.proofs.BuiltInNames.{each_is}
use Rattle.bq_package_values.proofs.built_in_laws.each_is_what_it_is_called.Goals as goal

pub returns : goal.returns
returns c = each_is c.each_name_is_found.ensures
