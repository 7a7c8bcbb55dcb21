use Rattle.std.proofs.Common.{◌<◌, false, length, get_or, ◌∙◌, sym, arith}
use Rattle.std.proofs.lemmas.List.{get_or_read}
use Rattle.bq_query_graph.proofs.Visits.{visit_barred, visit_again, visit_new, visit_all}
use Rattle.bq_query_graph.proofs.search.visit.Goals as goal

pub loop-next-preserved-then-not-allowed-y : goal.loop-next-preserved-then-not-allowed-y
loop-next-preserved-then-not-allowed-y c =
    visit_barred c.row-row.result.now c.args.allowed.now _ _ _ _ c.loop-next.next-index c.loop-next-test.true c.if-not-allowed-y.true c.loop-next.invariant

pub loop-next-preserved-then-index : goal.loop-next-preserved-then-index
loop-next-preserved-then-index c =
    let i = c.loop-next.next-index in
    let w = get_or c.row-row.result.now i 0 in
    let below : w < length c.args.graph.now = c.row-row.ensures.below i 0 c.loop-next-test.true in
    let within : w < length c.loop-next.marks.items = omega (arith, below, c.loop-next.invariant.long, c.requires.marks) in
    visit_again c.row-row.result.now c.args.allowed.now _ _ _ _ i c.loop-next-test.true (sym (get_or_read c.loop-next.marks.items w c.index.result.now within c.index.ensures false) ∙ c.if-index.true) c.loop-next.invariant

pub loop-next-preserved : goal.loop-next-preserved
loop-next-preserved c =
    let i = c.loop-next.next-index in
    let w = get_or c.row-row.result.now i 0 in
    let below : w < length c.args.graph.now = c.row-row.ensures.below i 0 c.loop-next-test.true in
    let within : w < length c.loop-next.marks.items = omega (arith, below, c.loop-next.invariant.long, c.requires.marks) in
    rw c.in_ok-push.ensures.items
    (visit_new c.row-row.result.now c.args.allowed.now _ _ _ _ i c.loop-next-test.true c.if-not-allowed-y.false within
    (sym (get_or_read c.loop-next.marks.items w c.index.result.now within c.index.ensures false) ∙ c.if-index.false) c.loop-next.invariant)

pub returns : goal.returns
returns c =
    visit_all c.row-row.result.now c.args.allowed.now c.args.marks.now.items c.args.queue.now.items c.loop-next.marks.items c.loop-next.queue.items c.loop-next.next-index c.loop-next-test.false c.row-row.ensures.row c.loop-next.invariant
