use Rattle.std.proofs.Common.{◌<◌, length, arith}
use Rattle.std.proofs.lemmas.List.{get_or_read}
use Rattle.bq_query_graph.proofs.Spreads.{level_more, front_below}
use Rattle.bq_query_graph.proofs.search.level.Goals as goal

pub visit-requires-clause-x : goal.visit-requires-clause-x
visit-requires-clause-x c =
    let k = c.loop-k.k in
    let there : k < length c.loop-k.queue.items = omega (arith, c.loop-k.invariant.longer) in
    let is = get_or_read c.loop-k.queue.items k c.index-x.result.now there c.index-x.ensures 0 in
    let below = front_below c.loop-k.marks.items c.loop-k.queue.items k c.loop-k.invariant.held there in
    omega (arith, is, below, c.loop-k.invariant.long, c.requires.marks)

pub loop-k-preserved : goal.loop-k-preserved
loop-k-preserved c =
    let k = c.loop-k.k in
    let there : k < length c.loop-k.queue.items = omega (arith, c.loop-k.invariant.longer) in
    let is = get_or_read c.loop-k.queue.items k c.index-x.result.now there c.index-x.ensures 0 in
    level_more c.args.graph.now c.args.allowed.now c.args.marks.now.items c.args.queue.now.items c.loop-k.marks.items c.loop-k.queue.items c.visit.new.marks.items c.visit.new.queue.items c.args.from k c.index-x.result.now
    (omega arith) (omega arith) is c.loop-k.invariant c.in_ok-visit.ensures
