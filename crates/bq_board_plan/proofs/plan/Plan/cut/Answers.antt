use Rattle.std.proofs.Common.{arith}
use Rattle.std.proofs.lemmas.Grind.{common_steps}
use Rattle.bq_board_plan.specs.Cut.{IsCut}
use Rattle.bq_board_plan.specs.Graph.{Loads, lists, IsGraph}
use Rattle.bq_board_plan.specs.Plan.{IsPlan}
use Rattle.bq_board_plan.proofs.Cutting.{cuts_all, cut_plan}
use Rattle.bq_board_plan.proofs.Paths.{path_is, is_path}
use Rattle.bq_board_plan.proofs.plan.Plan.cut.Goals as goal

whole : (p q : Loads) → IsGraph p → IsCut p q → IsPlan q
whole p q g c = cut_plan p q c (λ n m. (path_is p n m, is_path p n m)) (λ n m. (path_is q n m, is_path q n m)) g c

pub loop-m-preserved : goal.loop-m-preserved
loop-m-preserved c = grind (arith, common_steps)

pub invariant_of-loads : goal.invariant_of-loads
invariant_of-loads c =
    let is = cuts_all c.args.graph.now c.loop-m.m (lists c.loop-m.rows.items) (omega (arith, c.len-m-end.ensures.len)) (omega (arith, c.len-m-end.ensures.len)) c.loop-m.invariant in
    (whole c.args.graph.now (lists c.loop-m.rows.items) c.len-m-end.ensures.valid is).0

pub of-requires : goal.of-requires
of-requires c =
    let is = cuts_all c.args.graph.now c.loop-m.m (lists c.loop-m.rows.items) (omega (arith, c.len-m-end.ensures.len)) (omega (arith, c.len-m-end.ensures.len)) c.loop-m.invariant in
    (whole c.args.graph.now (lists c.loop-m.rows.items) c.len-m-end.ensures.valid is).1
