use Rattle.std.proofs.Common.{ℕ, List, Option, length, sym, subst}
use Rattle.std.specs.Prelude.{IfOk}
use Rattle.bq_query_graph.specs.Marks.{IsSet, Marked}
use Rattle.bq_query_graph.specs.Paths.{DepsWithin}
use Rattle.bq_query_function.specs.Sets.{OfOne, reached}
use Rattle.bq_query_function.proofs.sets.reached.Goals as goal

pub returns-in-Some : goal.returns-in-Some
returns-in-Some c =
    let w = c.args.graph.now in
    let X = Marked c.args.x.now in
    let n = c.in-Some.limit in
    subst (λ (o : Option ℕ). IfOk c.deps_within.result (λ r. IsSet (length w.targets) r.items (OfOne w (reached o) X))) (sym c.in-Some.is)
    (subst (λ (k : ℕ). IfOk c.deps_within.result (λ r. IsSet k r.items (DepsWithin w.edges X n))) c.graph-edges.ensures.valid.long
    (subst (λ (g : List (List ℕ)). IfOk c.deps_within.result (λ r. IsSet (length g) r.items (DepsWithin g X n))) c.graph-edges.ensures.value c.deps_within.ensures))
