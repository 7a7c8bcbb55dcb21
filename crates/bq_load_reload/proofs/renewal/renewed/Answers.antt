use Rattle.std.proofs.Common.{◌≡◌, ◌∙◌, List, sym, ap, subst}
use Rattle.bq_label.specs.Label.{LabelParts}
use Rattle.bq_load_discover.specs.LoadGraph.{GraphParts, inputs_of}
use Rattle.bq_load_reload.specs.Renewal.{AreAsRead}
use Rattle.bq_load_changes.specs.Same.{HaveStayed}
use Rattle.bq_load_reload.proofs.Renewed.{as_read_stay, is_numbered, is_renewed, packages_stay}
use Rattle.bq_load_reload.proofs.renewal.renewed.Goals as goal

pub modules_again-requires-clause-packages : goal.modules_again-requires-clause-packages
modules_again-requires-clause-packages c =
    packages_stay c.args.before.now c.args.sources.now.workspace.now c.args.touched.now c.args.sources.now.schema.now c.requires.schema c.requires.frame c.args.graph c.requires.graph c.into_all-labels.result.3 c.into_all-labels.ensures.packages

pub modules_again-requires-clause-stay : goal.modules_again-requires-clause-stay
modules_again-requires-clause-stay c =
    let stay : HaveStayed c.args.before.now c.args.sources.now.workspace.now c.args.touched.now c.args.graph.labels c.args.graph.labels c.in_ok-numbers.numbers.items =
    subst (λ (ls : List LabelParts). HaveStayed c.args.before.now c.args.sources.now.workspace.now c.args.touched.now ls c.args.graph.labels c.in_ok-numbers.numbers.items) c.labels.ensures.value
    (subst (λ (ls : List LabelParts). HaveStayed c.args.before.now c.args.sources.now.workspace.now c.args.touched.now c.labels.result.now ls c.in_ok-numbers.numbers.items) c.labels-2.ensures.value c.in_ok-numbers.ensures) in
    subst (λ z. AreAsRead (inputs_of c.args.sources.now.workspace.now c.args.sources.now.schema.now) z 0 c.into_all-labels.result.1.items) (sym c.deref.ensures.value) (as_read_stay c.args.before.now c.args.sources.now.workspace.now c.args.touched.now c.args.sources.now.schema.now c.requires.schema c.requires.frame c.args.graph c.requires.graph c.in_ok-numbers.numbers.items stay c.into_all-labels.result.1.items
    c.into_all-labels.ensures.modules)

pub of-requires : goal.of-requires
of-requires c =
    let all = c.into_all-labels.ensures in
    is_numbered (inputs_of c.args.sources.now.workspace.now c.args.sources.now.schema.now) c.args.graph c.into_all-labels.result.0 c.in_ok-again.again.modules.items c.into_all-labels.result.1.items c.into_all-labels.result.2 c.into_all-labels.result.3
    all.labels c.in_ok-again.ensures.read all.modules all.edges c.requires.graph.numbered

pub returns-clause-labels : goal.returns-clause-labels
returns-clause-labels c = ap (λ (z : GraphParts). z.labels) c.of.ensures ∙ c.into_all-labels.ensures.labels

pub returns-clause-edges : goal.returns-clause-edges
returns-clause-edges c = ap (λ (z : GraphParts). z.edges) c.of.ensures ∙ c.into_all-labels.ensures.edges

pub returns-clause-stayed : goal.returns-clause-stayed
returns-clause-stayed c =
    subst (λ (ls : List LabelParts). HaveStayed c.args.before.now c.args.sources.now.workspace.now c.args.touched.now ls c.args.graph.labels c.in_ok-numbers.numbers.items) c.labels.ensures.value
    (subst (λ (ls : List LabelParts). HaveStayed c.args.before.now c.args.sources.now.workspace.now c.args.touched.now c.labels.result.now ls c.in_ok-numbers.numbers.items) c.labels-2.ensures.value c.in_ok-numbers.ensures)

pub returns-clause-read : goal.returns-clause-read
returns-clause-read c =
    λ h.
    let all = c.into_all-labels.ensures in
    is_renewed c.args.before.now c.args.sources.now.workspace.now c.args.touched.now c.args.sources.now.schema.now c.requires.schema c.requires.frame c.args.graph c.requires.graph c.into_all-labels.result.0 c.in_ok-again.again.modules.items c.into_all-labels.result.1.items c.into_all-labels.result.2
    c.into_all-labels.result.3 all.labels c.in_ok-again.ensures.read all.modules all.edges all.packages (c.in_ok-again.ensures.same h) c.of.result c.of.ensures
