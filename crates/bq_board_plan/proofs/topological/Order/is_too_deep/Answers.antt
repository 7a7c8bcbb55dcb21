use Rattle.std.proofs.Common.{◌≡◌, get_or, arith, sym, subst}
use Rattle.std.proofs.lemmas.List.{get_or_read}
use Rattle.bq_board_plan.specs.Depth.{max_load_depth, IsDepth}
use Rattle.bq_board_plan.proofs.Deep.{cyclic_not_deep, deep_test}
use Rattle.bq_board_plan.proofs.topological.Order.is_too_deep.Goals as goal

pub returns-then-index-gt0 : goal.returns-then-index-gt0
returns-then-index-gt0 c =
    let read : c.index.result.now ≡ get_or c.args.self.now.pending.items c.args.m 0 = get_or_read c.args.self.now.pending.items c.args.m c.index.result.now (omega (arith, c.requires.known, c.requires.cyclic.wide)) c.index.ensures 0 in
    sym (cyclic_not_deep c.args.graph.now c.args.m (c.requires.cyclic.some c.args.m c.requires.known (omega (arith, read, c.if-index-gt0.true))))

pub returns : goal.returns
unfolding max_load_depth
returns c =
    let p = c.args.graph.now in
    let pending = get_or_read c.args.self.now.pending.items c.args.m c.index.result.now (omega (arith, c.requires.known, c.requires.cyclic.wide)) c.index.ensures 0 in
    let acyclic = c.requires.cyclic.none c.args.m c.requires.known (omega (arith, pending, c.if-index-gt0.false)) in
    let read : c.index-2.result.now ≡ get_or c.args.self.now.depths.items c.args.m 0 = get_or_read c.args.self.now.depths.items c.args.m c.index-2.result.now (omega (arith, c.requires.known, c.requires.depths.wide)) c.index-2.ensures 0 in
    deep_test p c.args.m c.index-2.result.now acyclic (subst (IsDepth p c.args.m) (sym read) (c.requires.depths.each c.args.m c.requires.known acyclic))
