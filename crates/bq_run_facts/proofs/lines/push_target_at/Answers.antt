use Rattle.std.proofs.Common.{◌≡◌, ◌∙◌, ◌++◌, ◌<◌, ℕ, List, length, get_or, sym, ap, subst}
use Rattle.std.specs.Prelude.{OnOk}
use Rattle.std.specs.List.{All}
use Rattle.bq_package_target.specs.declared.target.Target.{Target}
use Rattle.bq_query_graph.specs.Paths.{row}
use Rattle.bq_facts.specs.Deps.{AreDirect}
use Rattle.bq_facts.specs.Labels.{labels_at}
use Rattle.bq_run_facts.proofs.Direct.{direct_below}
use Rattle.bq_run_facts.proofs.Diagnostics.{line_is}
use Rattle.bq_run_facts.proofs.lines.push_target_at.Goals as goal

pub labels_at-requires : goal.labels_at-requires
labels_at-requires c =
    let n = length c.targets-targets.result.now in
    let long : length c.graph.result.now ≡ n = ap length c.graph.ensures.value ∙ c.graph.ensures.valid.long ∙ sym (ap length c.targets-targets.ensures.value) in
    let below : All (λ y. y < n) c.row.result.now = subst (λ m. All (λ y. y < m) c.row.result.now) long c.row.ensures.below in
    subst (λ (ds : List ℕ). All (λ y. y < n) ds) (sym c.deref.ensures.value) (direct_below c.row.result.now c.in_ok-direct.direct.items c.args.at n c.in_ok-direct.ensures below)

pub returns : goal.returns
returns c =
    let w = c.args.graph.now in
    let x = c.args.at in
    let t = c.index-targets-at.result in
    let ds = c.in_ok-direct.direct.items in
    let here : c.row.result.now ≡ row w.edges x = c.row.ensures.row ∙ ap (λ (g : List (List ℕ)). row g x) c.graph.ensures.value in
    let long : length c.graph.result.now ≡ length w.targets = ap length c.graph.ensures.value ∙ c.graph.ensures.valid.long in
    let below : All (λ y. y < length w.targets) (row w.edges x) =
    subst (λ (ys : List ℕ). All (λ y. y < length w.targets) ys) here (subst (λ m. All (λ y. y < m) c.row.result.now) long c.row.ensures.below) in
    let are : AreDirect (row w.edges x) x ds = subst (λ (ys : List ℕ). AreDirect ys x ds) here c.in_ok-direct.ensures in
    let is : t ≡ get_or w.targets x t = c.index-targets-at.is ∙ ap (λ (ts : List Target). get_or ts x t) c.targets-targets.ensures.value in
    let labels : c.deref-3.result.now ≡ labels_at w.targets ds =
    c.deref-3.ensures.value ∙ c.in_ok-deps.ensures ∙ (λ i. labels_at (c.targets-targets.ensures.value i) (c.deref.ensures.value i)) in
    subst (λ (line : List ℕ). OnOk c.push_target.result (c.push_target.new.text ≡ c.args.text.now ++ line))
    (line_is c.args.packages.now w x t c.requires is ds c.deref-3.result.now c.deref-2.result.now are below labels (c.deref-2.ensures.value ∙ c.in_ok-file.ensures))
    c.push_target.ensures
