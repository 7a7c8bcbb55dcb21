use Rattle.bq_label.proofs.PackageTexts.{package_read, package_written}
use Rattle.bq_label.proofs.laws.forms_of_a_package.Goals as goal

pub returns : goal.returns
returns c = λ text p. (package_read text p, λ h. package_written text p h.0 h.1)
