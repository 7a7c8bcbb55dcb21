use Rattle.std.proofs.Common.{ℕ, ◌+◌, take, get_or, sym, subst, arith}
use Rattle.bq_board_plan.specs.Depth.{IsOneAbove}
use Rattle.bq_board_plan.proofs.Settling.{Has-get_or}
use Rattle.bq_board_plan.proofs.Deep.{above_grows, above_stays}
use Rattle.bq_board_plan.proofs.depth.depth_by.Goals as goal
use Rattle.bq_board_plan.proofs.depth.depth_by.Goals.{then-below-depth, else-below-depth}

pub bounds-depths-l : goal.bounds-depths-l
bounds-depths-l c = c.requires.known (get_or c.args.loads.now c.loop-l.l-index 0) (Has-get_or c.args.loads.now c.loop-l.l-index c.loop-l-test.true)

pub overflow_add-depth : goal.overflow_add-depth
overflow_add-depth c = omega (arith, c.requires.low (get_or c.args.loads.now c.loop-l.l-index 0) (Has-get_or c.args.loads.now c.loop-l.l-index c.loop-l-test.true))

pub loop-l-preserved : goal.loop-l-preserved
loop-l-preserved c =
    let f : ℕ → ℕ = λ x. get_or c.args.depths.now x 0 in
    let P : ℕ → Type 0 = λ d. IsOneAbove f (take (c.loop-l.l-index + 1) c.args.loads.now) d in
    elim c.if-below-depth.branch [
      | then-below-depth w ↦ subst P (sym w.depth-is) (above_grows f c.args.loads.now c.loop-l.l-index c.loop-l.depth c.loop-l.invariant c.loop-l-test.true w.if-below-depth.true)
      | else-below-depth w ↦ subst P (sym w.depth-is) (above_stays f c.args.loads.now c.loop-l.l-index c.loop-l.depth c.loop-l.invariant c.loop-l-test.true (omega (arith, w.if-below-depth.false)))
    ]
