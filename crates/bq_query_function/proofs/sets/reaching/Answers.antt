use Rattle.std.proofs.Common.{ℕ, List, Option, length, sym, subst}
use Rattle.std.specs.Prelude.{IfOk}
use Rattle.bq_query_graph.specs.Marks.{IsSet, Marked}
use Rattle.bq_query_graph.specs.Paths.{RdepsWithin}
use Rattle.bq_query_function.specs.Sets.{OfTwo, reaching}
use Rattle.bq_query_function.proofs.sets.reaching.Goals as goal

pub returns-in-Some : goal.returns-in-Some
returns-in-Some c =
    let w = c.args.graph.now in
    let U = Marked c.args.u.now in
    let X = Marked c.args.x.now in
    let n = c.in-Some.limit in
    subst (λ (o : Option ℕ). IfOk c.rdeps_within.result (λ r. IsSet (length w.targets) r.items (OfTwo w (reaching o) U X))) (sym c.in-Some.is)
    (subst (λ (k : ℕ). IfOk c.rdeps_within.result (λ r. IsSet k r.items (RdepsWithin w.edges U X n))) c.graph-edges.ensures.valid.long
    (subst (λ (g : List (List ℕ)). IfOk c.rdeps_within.result (λ r. IsSet (length g) r.items (RdepsWithin g U X n))) c.graph-edges.ensures.value c.rdeps_within.ensures))
