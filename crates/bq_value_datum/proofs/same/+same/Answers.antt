use Rattle.std.proofs.Common.{sym, arith, subst, ◌<◌}
use Rattle.bq_value_datum.specs.Datum.{Datum, weight, weights, data_of}
use Rattle.bq_value_datum.proofs.Keyed.{apart, item_weight}
use Rattle.std.proofs.lemmas.Grind.{common_steps}
use Rattle.bq_value_datum.proofs.same.+same.Goals as goal

pub are_same-returns-then-xs-ys : goal.are_same-returns-then-xs-ys
are_same-returns-then-xs-ys t c = sym (apart c.args.xs.now c.args.ys.now c.if-xs-ys.true)

pub are_same-is_same-requires : goal.are_same-is_same-requires
are_same-is_same-requires t c =
    let lt = item_weight c.args.xs.now c.loop-i.i c.index-xs-i.result (omega arith) in
    let P : Datum → Type 0 = λ v. weight v < weights (data_of c.args.xs.now) in
    let h : weight c.index-xs-i.result < weights (data_of c.args.xs.now) = subst P (sym c.index-xs-i.is) lt in
    grind (arith, h, c.decreases)

pub are_same-loop-i-preserved : goal.are_same-loop-i-preserved
are_same-loop-i-preserved t c = grind (arith, common_steps)

pub are_same-returns-then-not-is_same : goal.are_same-returns-then-not-is_same
are_same-returns-then-not-is_same t c = grind (arith, common_steps)

pub are_same-returns : goal.are_same-returns
are_same-returns t c = grind (arith, common_steps)
