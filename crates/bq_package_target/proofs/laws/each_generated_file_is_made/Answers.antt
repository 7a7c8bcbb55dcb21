use Rattle.bq_package_target.proofs.Made.{finished_made}
use Rattle.bq_package_target.proofs.laws.each_generated_file_is_made.Goals as goal

pub returns : goal.returns
returns c = finished_made
