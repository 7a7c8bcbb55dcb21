use Rattle.std.proofs.lemmas.Result.{IfOk-weaker}
use Rattle.bq_query_function.specs.Matching.{has_attribute}
use Rattle.bq_query_function.proofs.Tests.{set_from_kept}
use Rattle.bq_query_function.proofs.attr.attr.Goals as goal

pub returns : goal.returns
returns c = IfOk-weaker c.matching.result _ _ (λ r k. set_from_kept (has_attribute c.args.name.now c.args.pattern.now) c.args.targets.now c.args.x.now r.items k) c.matching.ensures
