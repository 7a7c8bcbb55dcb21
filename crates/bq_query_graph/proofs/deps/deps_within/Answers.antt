use Rattle.std.proofs.Common.{◌∙◌, ℕ, true, List, length, replicate, ap, subst, arith}
use Rattle.std.specs.Prelude.{IfOk}
use Rattle.std.proofs.lemmas.Result.{IfOk-weaker}
use Rattle.bq_query_graph.specs.Paths.{EndsWithin, DepsWithin}
use Rattle.bq_query_graph.specs.Marks.{IsSet, Step, Both, Marked}
use Rattle.bq_query_graph.proofs.Answered.{Everything, deps_within_as}
use Rattle.std.proofs.lemmas.Grind.{common_steps}
use Rattle.bq_query_graph.proofs.deps.deps_within.Goals as goal

pub returns : goal.returns
returns c =
    let g = c.args.graph.now in
    let xs = c.args.x.now in
    let all = c.deref.result.now in
    let n = c.args.limit in
    let e : Everything g all = c.deref.ensures.value ∙ (c.in_ok-all.ensures.items_if_clones_equal (λ y e. e) ∙ ap (λ n. replicate n true) c.len.ensures.count) in
    IfOk-weaker c.within.result (λ r. IsSet (length g) r.items (EndsWithin (Step g all) (Both xs all) n)) (λ r. IsSet (length g) r.items (DepsWithin g (Marked xs) n))
    (λ r h. deps_within_as g all xs n c.len.ensures.below c.requires e r.items h) (subst (λ (h : List (List ℕ)). IfOk c.within.result (λ r. IsSet (length h) r.items (EndsWithin (Step h all) (Both xs all) n))) c.graph.view_is c.within.ensures)

pub within-requires-clause-allowed : goal.within-requires-clause-allowed
within-requires-clause-allowed c = grind (arith, common_steps)
