use Rattle.bq_package.proofs.Alike.{defaults_are_read_in_the_package}
use Rattle.bq_package.proofs.laws.defaults_are_read_in_the_package.Goals as goal

pub returns : goal.returns
returns c = defaults_are_read_in_the_package
