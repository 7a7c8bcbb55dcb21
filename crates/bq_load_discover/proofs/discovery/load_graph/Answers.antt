use Rattle.std.proofs.Common.{◌≡◌, ◌∙◌, Result, Err, sym, ap, subst, arith}
use Rattle.std.proofs.lemmas.Result.{err_from_is_err_and}
use Rattle.bq_board_plan.specs.Graph.{Fits}
use Rattle.bq_load_discover.specs.declared.load_err.LoadErr.{LoadErr}
use Rattle.bq_load_discover.specs.LoadGraph.{GraphParts, IsReadGraph, DiscoversWithin}
use Rattle.bq_load_discover.proofs.Graphs.{held_few, held_wide, held_numbered, held_graph, held_fits, held_too_many}
use Rattle.bq_load_discover.proofs.discovery.load_graph.Goals as goal

pub edges-requires-clause-few : goal.edges-requires-clause-few
edges-requires-clause-few c =
    held_few c.args.modules.items c.requires.distinct (omega (arith, c.requires.few, c.requires.bounded.modules)) c.sorted-modules.result.items c.sorted-modules.ensures.moved c.sorted-modules.ensures.ascending c.deref.result.now c.deref-2.result.now c.deref.ensures.value c.deref-2.ensures.value
    c.in_ok-labels.ensures.valid c.in_ok-labels.labels c.in_ok-labels.ensures.labels

pub edges-requires-clause-wide : goal.edges-requires-clause-wide
edges-requires-clause-wide c =
    held_wide c.args.modules.items c.requires.distinct (omega (arith, c.requires.few, c.requires.bounded.modules)) c.sorted-modules.result.items c.sorted-modules.ensures.moved c.sorted-modules.ensures.ascending c.deref.result.now c.deref-2.result.now c.deref.ensures.value c.deref-2.ensures.value
    c.in_ok-labels.ensures.valid c.in_ok-labels.labels c.in_ok-labels.ensures.labels

pub of-requires : goal.of-requires
of-requires c =
    held_numbered c.args.modules.items c.requires.distinct (omega (arith, c.requires.few, c.requires.bounded.modules)) c.sorted-modules.result.items c.sorted-modules.ensures.moved c.sorted-modules.ensures.ascending c.deref.result.now c.deref-2.result.now c.deref.ensures.value c.deref-2.ensures.value
    c.in_ok-labels.ensures.valid c.in_ok-labels.labels c.in_ok-labels.ensures.labels c.in_ok-edges.edges c.in_ok-edges.ensures.edges c.args.packages c.in_ok-edges.ensures.valid

pub returns : goal.returns
returns c = λ inputs f b.
    subst (λ (z : GraphParts). IsReadGraph inputs z × Fits c.args.limits z.edges) (sym c.of.ensures) (
      held_graph c.args.modules.items c.requires.distinct (omega (arith, c.requires.few, c.requires.bounded.modules)) c.sorted-modules.result.items c.sorted-modules.ensures.moved c.sorted-modules.ensures.ascending c.deref.result.now c.deref-2.result.now c.deref.ensures.value c.deref-2.ensures.value
          c.in_ok-labels.ensures.valid c.in_ok-labels.labels c.in_ok-labels.ensures.labels c.in_ok-edges.edges c.in_ok-edges.ensures.edges c.args.packages c.in_ok-edges.ensures.valid c.args.limits inputs f b,
      held_fits c.args.modules.items c.requires.distinct (omega (arith, c.requires.few, c.requires.bounded.modules)) c.sorted-modules.result.items c.sorted-modules.ensures.moved c.sorted-modules.ensures.ascending c.deref.result.now c.deref-2.result.now c.deref.ensures.value c.deref-2.ensures.value
          c.in_ok-labels.ensures.valid c.in_ok-labels.labels c.in_ok-labels.ensures.labels c.in_ok-edges.edges c.in_ok-edges.ensures.edges c.args.packages c.args.limits c.in_ok-edges.ensures.fits,
    )

pub returns-in_err-edges : goal.returns-in_err-edges
returns-in_err-edges c = λ inputs f b.
    let p = err_from_is_err_and c.from_residual-in_err-edges.result c.from_residual-in_err-edges.ensures.1 in
    let is : c.from_residual-in_err-edges.result ≡ Err c.in_err-edges.field-0.0 = p.1 ∙ ap (λ (z : LoadErr). Err z) p.2 in
    let refused = c.in_err-edges.ensures.refused in
    let told : DiscoversWithin c.args.limits inputs (Err c.in_err-edges.field-0.0) = (
      λ t. held_too_many c.args.modules.items c.requires.distinct (omega (arith, c.requires.few, c.requires.bounded.modules)) c.sorted-modules.result.items c.sorted-modules.ensures.moved c.sorted-modules.ensures.ascending c.deref.result.now c.deref-2.result.now c.deref.ensures.value c.deref-2.ensures.value
          c.in_ok-labels.ensures.valid c.in_ok-labels.labels c.in_ok-labels.ensures.labels c.args.limits (refused.0 t) inputs f,
      refused.1,
    ) in
    subst (λ (z : Result GraphParts LoadErr). DiscoversWithin c.args.limits inputs z) (sym is) told
