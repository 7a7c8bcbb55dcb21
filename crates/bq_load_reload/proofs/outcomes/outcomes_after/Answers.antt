use Rattle.std.proofs.Common.{List, Option, map, sym, subst}
use Rattle.bq_load_order.specs.Again.{had, AreUnchanged}
use Rattle.bq_load_order.specs.SharedOutcomes.{shown}
use Rattle.bq_load.specs.Evaluation.{means}
use Rattle.bq_load.specs.Loading.{loading_in}
use Rattle.bq_load.specs.Views.{module_view, failed_view}
use Rattle.bq_load_reload.proofs.outcomes.outcomes_after.Goals as goal

pub kept_after-requires-clause-unchanged : goal.kept_after-requires-clause-unchanged
kept_after-requires-clause-unchanged g c =
    subst (λ was. AreUnchanged (had (map (shown module_view failed_view) c.args.past.now.outcomes.now)) c.args.past.now.edges.now (means (loading_in c.args.sources.now.workspace.now c.args.sources.now.schema.now c.args.limits.steps c.args.graph.now)) was)
    (sym c.deref.ensures.value) c.in_ok-numbers.ensures
