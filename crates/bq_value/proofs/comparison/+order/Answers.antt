use Rattle.std.proofs.Common.{◌∙◌, sym, arith}
use Rattle.bq_value.specs.Equality.{equal_at}
use Rattle.bq_value.specs.Order.{ordered_at}
use Rattle.bq_value.proofs.Prefixes.{shorter_is_less}
use Rattle.bq_value.proofs.comparison.+order.Goals as goal

pub slices_ordered-returns-then-xs-ys : goal.slices_ordered-returns-then-xs-ys
slices_ordered-returns-then-xs-ys t c =
    sym (c.loop-i.invariant.1 ∙ shorter_is_less (equal_at c.args.levels c.args.store.now) (ordered_at c.args.levels c.args.store.now) c.loop-i.left c.loop-i.i c.args.xs.now c.args.ys.now (omega (arith, c.loop-i-test.false)) (omega (arith, c.loop-i.auto.i-end, c.loop-i-test.false, c.if-xs-ys.true)))
