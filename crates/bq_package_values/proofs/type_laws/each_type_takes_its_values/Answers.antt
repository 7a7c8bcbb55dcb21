use Rattle.bq_package_values.proofs.Taken.{each_type_takes_its_values}
use Rattle.bq_package_values.proofs.type_laws.each_type_takes_its_values.Goals as goal

pub returns : goal.returns
returns c = each_type_takes_its_values
