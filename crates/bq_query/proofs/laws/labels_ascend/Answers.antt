use Rattle.bq_query.proofs.Inclusions.{ascend}
use Rattle.bq_query.proofs.laws.labels_ascend.Goals as goal

pub returns : goal.returns
returns c = ascend
