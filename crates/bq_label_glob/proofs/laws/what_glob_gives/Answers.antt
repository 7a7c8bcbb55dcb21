use Rattle.bq_label_glob.proofs.GivenNames.{given_is}
use Rattle.bq_label_glob.proofs.laws.what_glob_gives.Goals as goal

pub returns : goal.returns
returns c = given_is
