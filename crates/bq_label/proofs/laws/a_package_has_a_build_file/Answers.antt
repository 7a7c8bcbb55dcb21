use Rattle.bq_label.proofs.BuildFiles.{package_words}
use Rattle.bq_label.proofs.laws.a_package_has_a_build_file.Goals as goal

pub returns : goal.returns
returns c = package_words
