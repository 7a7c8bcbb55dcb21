use Rattle.bq_label_glob.proofs.GivenNames.{names_ascend}
use Rattle.bq_label_glob.proofs.laws.names_in_order.Goals as goal

pub returns : goal.returns
returns c = names_ascend
