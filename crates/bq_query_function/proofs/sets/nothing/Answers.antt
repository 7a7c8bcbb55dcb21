use Rattle.std.proofs.lemmas.Result.{IfOk-weaker}
use Rattle.bq_query_function.proofs.Empty.{none_in}
use Rattle.bq_query_function.proofs.sets.nothing.Goals as goal

pub returns : goal.returns
returns c = IfOk-weaker c.no_target.result _ _ (λ r e. none_in c.args.count r.items e) c.no_target.ensures
