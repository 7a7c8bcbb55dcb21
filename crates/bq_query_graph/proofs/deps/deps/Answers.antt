use Rattle.std.proofs.Common.{◌∙◌, ℕ, true, List, length, replicate, ap, subst, refl, arith}
use Rattle.std.specs.Prelude.{IfOk}
use Rattle.std.proofs.lemmas.Result.{IfOk-weaker}
use Rattle.bq_query_graph.specs.Paths.{Ends, Deps}
use Rattle.bq_query_graph.specs.Marks.{IsSet, Step, Both, Marked}
use Rattle.bq_query_graph.proofs.Answered.{Everything, deps_as}
use Rattle.std.proofs.lemmas.Grind.{common_steps}
use Rattle.bq_query_graph.proofs.deps.deps.Goals as goal

pub returns : goal.returns
returns c =
    let g = c.args.graph.now in
    let xs = c.args.x.now in
    let all = c.deref.result.now in
    let e : Everything g all = c.deref.ensures.value ∙ (c.in_ok-all.ensures.items_if_clones_equal (λ y e. e) ∙ ap (λ n. replicate n true) c.len.ensures.count) in
    IfOk-weaker c.closure.result (λ r. IsSet (length g) r.items (Ends (Step g all) (Both xs all))) (λ r. IsSet (length g) r.items (Deps g (Marked xs)))
    (λ r h. deps_as g all xs c.len.ensures.below c.requires e (length g) r.items refl h) (subst (λ (h : List (List ℕ)). IfOk c.closure.result (λ r. IsSet (length h) r.items (Ends (Step h all) (Both xs all)))) c.graph.view_is c.closure.ensures)

pub closure-requires-clause-allowed : goal.closure-requires-clause-allowed
closure-requires-clause-allowed c = grind (arith, common_steps)
