use Rattle.std.proofs.Common.{sym, arith, subst, ◌<◌}
use Rattle.bq_value_datum.specs.Datum.{Datum, weight, weights, data_of}
use Rattle.bq_value_datum.proofs.Keyed.{item_weight}
use Rattle.std.proofs.lemmas.Grind.{common_steps}
use Rattle.bq_value_datum.proofs.same.+feed.Goals as goal

pub feed_values-feed_value-requires : goal.feed_values-feed_value-requires
feed_values-feed_value-requires g t c κs within =
    let lt = item_weight c.args.values.now c.loop-value.value-index c.value-item.result (omega arith) in
    let P : Datum → Type 0 = λ v. weight v < weights (data_of c.args.values.now) in
    let h : weight c.value-item.result < weights (data_of c.args.values.now) = subst P (sym c.value-item.is) lt in
    (grind (arith, h, c.decreases), within)

pub feed_values-loop-value-preserved : goal.feed_values-loop-value-preserved
feed_values-loop-value-preserved t c = grind (arith, common_steps)

pub feed_values-returns : goal.feed_values-returns
feed_values-returns t c = grind (arith, common_steps)
