use Rattle.std.proofs.Common.{length, refl}
use Rattle.std.proofs.lemmas.Result.{IfOk-weaker}
use Rattle.bq_query_graph.specs.Paths.{Rdeps, OnPaths}
use Rattle.bq_query_graph.specs.Marks.{IsSet, Marked}
use Rattle.bq_query_graph.proofs.Answered.{set_as}
use Rattle.bq_query_graph.proofs.Between.{between, dependents}
use Rattle.bq_query_graph.proofs.allpaths.allpaths.Goals as goal

pub returns : goal.returns
returns c =
    let g = c.args.graph.now in
    let A = Marked c.args.a.now in
    let B = Marked c.args.b.now in
    IfOk-weaker c.rdeps.result (λ r. IsSet (length g) r.items (Rdeps g A B)) (λ r. IsSet (length g) r.items (OnPaths g A B))
    (λ r s. set_as (Rdeps g A B) (OnPaths g A B) (length g) (length g) r.items refl (between g A B) (dependents g A B) s) c.rdeps.ensures
