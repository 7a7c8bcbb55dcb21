use Rattle.std.proofs.Common.{ℕ, Bool, List, length, sym, subst}
use Rattle.std.proofs.lemmas.Result.{IfOk-weaker}
use Rattle.bq_query_graph.specs.Paths.{AreTurned, Ends, Deps, Rdeps}
use Rattle.bq_query_graph.specs.Marks.{IsSet, Step, Both, Marked}
use Rattle.bq_query_graph.proofs.Answered.{rdeps_as}
use Rattle.bq_query_graph.proofs.rdeps.rdeps.Goals as goal

pub returns : goal.returns
returns c =
    let g = c.args.graph.now in
    let h = c.graph.inside.back in
    let turned : AreTurned g h = subst (λ (z : List (List ℕ)). AreTurned z h) c.graph.view_is c.graph.invariant in
    let U = Marked c.args.u.now in
    let xs = c.args.x.now in
    let d = c.deref.result.now in
    let s : IsSet (length g) d (Deps g U) = subst (λ (ms : List Bool). IsSet (length g) ms (Deps g U)) (sym c.deref.ensures.value) c.in_ok-inside.ensures in
    IfOk-weaker c.closure.result (λ r. IsSet (length h) r.items (Ends (Step h d) (Both xs d))) (λ r. IsSet (length g) r.items (Rdeps g U (Marked xs)))
    (λ r e. rdeps_as g h U xs d turned s r.items e) c.closure.ensures
