use Rattle.std.proofs.Common.{◌≡◌, ◌∙◌, List, refl, sym, subst}
use Rattle.bq_label.specs.Label.{LabelParts}
use Rattle.bq_load_changes.specs.Same.{HaveStayed}
use Rattle.bq_load_reload.proofs.Along.{past_is}
use Rattle.bq_load_reload.proofs.Unchanged.{are_unchanged}
use Rattle.bq_load_reload.proofs.load.load_renewed.Goals as goal

pub kept_after-requires-clause-past : goal.kept_after-requires-clause-past
kept_after-requires-clause-past g c =
    past_is c.args.before.now c.args.limits.steps c.labels.result.now c.args.renewal.graph.labels c.edges.result.now c.args.renewal.graph.edges c.args.outcomes.now c.args.outcomes.now c.labels.ensures.value c.edges.ensures.value refl c.requires.past

pub kept_after-requires-clause-unchanged : goal.kept_after-requires-clause-unchanged
kept_after-requires-clause-unchanged g c =
    are_unchanged c.args.before.now c.args.sources.now.workspace.now c.args.limits.steps c.labels.result.now c.edges.result.now c.args.outcomes.now
    (past_is c.args.before.now c.args.limits.steps c.labels.result.now c.args.renewal.graph.labels c.edges.result.now c.args.renewal.graph.edges c.args.outcomes.now c.args.outcomes.now c.labels.ensures.value c.edges.ensures.value refl c.requires.past)
    c.args.sources.now.schema.now c.requires.schema c.args.renewal.graph c.requires.graph c.args.touched.now c.requires.frame c.deref.result.now
    (subst (λ (ls : List LabelParts). HaveStayed c.args.before.now c.args.sources.now.workspace.now c.args.touched.now ls c.args.renewal.graph.labels c.deref.result.now) (sym c.labels.ensures.value)
    (subst (λ was. HaveStayed c.args.before.now c.args.sources.now.workspace.now c.args.touched.now c.args.renewal.graph.labels c.args.renewal.graph.labels was) (sym c.deref.ensures.value) c.requires.stayed))
