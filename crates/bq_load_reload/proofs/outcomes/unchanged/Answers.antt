use Rattle.std.proofs.Common.{List, map, subst}
use Rattle.bq_label.specs.Label.{LabelParts}
use Rattle.bq_load_order.specs.Again.{had, AreUnchanged}
use Rattle.bq_load_order.specs.SharedOutcomes.{shown}
use Rattle.bq_load.specs.Evaluation.{means}
use Rattle.bq_load.specs.Loading.{loading_in}
use Rattle.bq_load.specs.Views.{module_view, failed_view}
use Rattle.bq_load_changes.specs.Same.{HaveStayed}
use Rattle.bq_load_reload.proofs.Along.{weaker}
use Rattle.bq_load_reload.proofs.Unchanged.{are_unchanged}
use Rattle.bq_load_reload.proofs.outcomes.unchanged.Goals as goal

pub returns : goal.returns
returns c =
    let past = c.args.past.now in
    let before = past.workspace.now in
    let after = c.args.sources.now.workspace.now in
    let touched = past.touched.now in
    weaker (λ was. HaveStayed before after touched past.labels.now c.labels.result.now was.items)
    (λ was. AreUnchanged (had (map (shown module_view failed_view) past.outcomes.now)) past.edges.now (means (loading_in after c.args.sources.now.schema.now c.args.limits.steps c.args.graph.now)) was.items)
    c.numbers_before.result
    (λ was stay. are_unchanged before after c.args.limits.steps past.labels.now past.edges.now past.outcomes.now c.requires.past c.args.sources.now.schema.now c.requires.schema c.args.graph.now c.requires.graph touched c.requires.frame was.items
    (subst (λ (ls : List LabelParts). HaveStayed before after touched past.labels.now ls was.items) c.labels.ensures.value stay))
    c.numbers_before.ensures
