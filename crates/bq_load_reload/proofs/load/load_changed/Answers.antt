use Rattle.std.proofs.Common.{◌≡◌, ◌∙◌, List, refl, sym, subst}
use Rattle.bq_board.specs.Graph.{Loads, Fits}
use Rattle.bq_label.specs.Label.{LabelParts}
use Rattle.bq_load_changes.specs.Same.{HaveStayed}
use Rattle.bq_load_reload.proofs.Along.{past_is}
use Rattle.bq_load_reload.proofs.load.load_changed.Goals as goal

pub load_renewed-requires-clause-past : goal.load_renewed-requires-clause-past
load_renewed-requires-clause-past g c _ _ =
    past_is c.args.before.now c.args.limits.steps c.in_ok-renewal.renewal.graph.labels c.args.graph.labels c.in_ok-renewal.renewal.graph.edges c.args.graph.edges c.args.outcomes.now c.args.outcomes.now c.in_ok-renewal.ensures.labels c.in_ok-renewal.ensures.edges refl c.requires.past

pub load_renewed-requires-clause-stayed : goal.load_renewed-requires-clause-stayed
load_renewed-requires-clause-stayed g c _ _ =
    subst (λ (ls : List LabelParts). HaveStayed c.args.before.now c.args.sources.now.workspace.now c.args.touched.now ls ls c.in_ok-renewal.renewal.numbers.items) (sym c.in_ok-renewal.ensures.labels) c.in_ok-renewal.ensures.stayed

pub load_renewed-requires-clause-fits : goal.load_renewed-requires-clause-fits
load_renewed-requires-clause-fits g c _ _ = subst (λ (p : Loads). Fits c.args.limits p) (sym c.in_ok-renewal.ensures.edges) c.requires.fits

pub load_anew-requires-clause-past : goal.load_anew-requires-clause-past
load_anew-requires-clause-past g c _ _ =
    past_is c.args.before.now c.args.limits.steps c.labels.result.now c.args.graph.labels c.edges.result.now c.args.graph.edges c.args.outcomes.now c.args.outcomes.now (c.labels.ensures.value ∙ c.in_ok-renewal.ensures.labels)
    (c.edges.ensures.value ∙ c.in_ok-renewal.ensures.edges) refl c.requires.past
