use Rattle.std.proofs.Common.{◌≡◌, get_or, arith, sym, subst}
use Rattle.std.proofs.lemmas.List.{get_or_read}
use Rattle.bq_board_plan.specs.Depth.{max_load_depth, IsDepth}
use Rattle.bq_board_plan.proofs.Deep.{limit_test}
use Rattle.bq_board_plan.proofs.topological.Order.is_at_limit.Goals as goal

pub returns : goal.returns
unfolding max_load_depth
returns c =
    let p = c.args.graph.now in
    let read : c.index.result.now ≡ get_or c.args.self.now.depths.items c.args.m 0 = get_or_read c.args.self.now.depths.items c.args.m c.index.result.now (omega (arith, c.requires.known, c.requires.depths.wide)) c.index.ensures 0 in
    limit_test p c.args.m c.index.result.now (subst (IsDepth p c.args.m) (sym read) (c.requires.depths.each c.args.m c.requires.known c.requires.acyclic))
