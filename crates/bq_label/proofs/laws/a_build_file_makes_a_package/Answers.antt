use Rattle.bq_label.proofs.Listings.{build_file_listed}
use Rattle.bq_label.proofs.laws.a_build_file_makes_a_package.Goals as goal

pub returns : goal.returns
returns c = build_file_listed
