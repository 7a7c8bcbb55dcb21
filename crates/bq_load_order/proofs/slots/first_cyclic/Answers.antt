use Rattle.std.proofs.Common.{◌≡◌, ℕ, ◌<◌, length, get_or, arith, sym}
use Rattle.std.proofs.lemmas.List.{get_or_read}
use Rattle.bq_board_plan.specs.Cycles.{is_cyclic}
use Rattle.bq_board_plan.proofs.Lemmas.{Has-get_or}
use Rattle.bq_load_order.proofs.Values.{first_next, first_stop}
use Rattle.bq_load_order.proofs.slots.first_cyclic.Goals as goal

pub index-requires : goal.index-requires
index-requires c = omega (arith, c.requires.known (get_or c.args.loads.now c.loop-l.l-index 0) (Has-get_or c.args.loads.now c.loop-l.l-index c.loop-l-test.true), c.requires.cyclic.wide, c.args.order.now.pending.ok)

pub returns-then-index-gt0 : goal.returns-then-index-gt0
returns-then-index-gt0 c =
    let x : ℕ = get_or c.args.loads.now c.loop-l.l-index 0 in
    let known : x < length c.args.graph.now = c.requires.known x (Has-get_or c.args.loads.now c.loop-l.l-index c.loop-l-test.true) in
    let read : c.index.result.now ≡ get_or c.args.order.now.pending.items x 0 = get_or_read c.args.order.now.pending.items x c.index.result.now (omega (arith, known, c.requires.cyclic.wide)) c.index.ensures 0 in
    sym (first_stop (is_cyclic c.args.graph.now) c.args.loads.now c.loop-l.l-index c.loop-l.invariant c.loop-l-test.true (c.requires.cyclic.some x known (omega (arith, read, c.if-index-gt0.true))))

pub loop-l-preserved : goal.loop-l-preserved
loop-l-preserved c =
    let x : ℕ = get_or c.args.loads.now c.loop-l.l-index 0 in
    let known : x < length c.args.graph.now = c.requires.known x (Has-get_or c.args.loads.now c.loop-l.l-index c.loop-l-test.true) in
    let read : c.index.result.now ≡ get_or c.args.order.now.pending.items x 0 = get_or_read c.args.order.now.pending.items x c.index.result.now (omega (arith, known, c.requires.cyclic.wide)) c.index.ensures 0 in
    first_next (is_cyclic c.args.graph.now) c.args.loads.now c.loop-l.l-index c.loop-l.invariant c.loop-l-test.true (c.requires.cyclic.none x known (omega (arith, read, c.if-index-gt0.false)))
