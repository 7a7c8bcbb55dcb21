use Rattle.bq_load_laws.proofs.Packages.Made.{made}
use Rattle.bq_load_laws.proofs.package.files_make_their_packages.Goals as goal

pub returns : goal.returns
returns c = made
