use Rattle.std.proofs.Common.{◌<◌, length, arith, ◌∙◌, ap, sym, subst}
use Rattle.std.proofs.lemmas.List.{length-map}
use Rattle.bq_board_plan.specs.Graph.{Loads, lists}
use Rattle.bq_board_plan.specs.Plan.{IsOut}
use Rattle.bq_board_plan.proofs.Rows.{items, row_is}
use Rattle.bq_board_plan.proofs.Outs.{outs_are}
use Rattle.bq_board_plan.proofs.plan.Plan.edges_out.Goals as goal

pub returns : goal.returns
returns c =
    let o = c.self.invariant.3 in let long = ap (λ (q : Loads). length q) c.self.view_is in
    let lt : c.args.m < length c.self.inside.outs.items = omega (arith, o.wide, length-map c.self.inside.outs.items items, c.requires) in
    let is = c.as_slice.ensures.value ∙ sym (row_is c.self.inside.outs.items c.args.m c.index.result.now lt c.index.ensures) in
    record { out = subst (λ (q : Loads). IsOut q c.args.m c.as_slice.result.now) c.self.view_is (outs_are c.self.inside.graph (lists c.self.inside.outs.items) c.args.m c.as_slice.result.now o is) }
