use Rattle.bq_package_values.proofs.Taken.{each_type_refuses_other_values}
use Rattle.bq_package_values.proofs.type_laws.each_type_refuses_other_values.Goals as goal

pub returns : goal.returns
returns c = each_type_refuses_other_values
