use Rattle.std.proofs.Common.{rules, ◌≡◌, ◌+◌, ◌*◌, arith, ap}
use Rattle.bq_value_datum.specs.Datum.{weight}
use Rattle.bq_value_datum.proofs.Weights.{popped, pushed}
use Rattle.bq_value_datum.specs.declared.value.Value.TheDeep.{size-Value}
use Rattle.std.proofs.lemmas.Grind.{common_steps}
use Rattle.bq_value_datum.proofs.value.+give_up.Goals as goal

pub move_all-forget-requires : goal.move_all-forget-requires
move_all-forget-requires t c κs =
    let e = popped c.loop-item.items.items c.pop.new.self.items c.in-Some.item c.in-Some.ensures.items in
    let f : size-Value c.in-Err.refused.value ≡ 3 * (weight c.in-Some.item + 1) + 0 = ap (λ v. 3 * (weight v + 1) + 0) c.in-Err.ensures.value_returned in
    (((omega (arith, e, f, c.loop-item.invariant, c.decreases), tt), tt), search rules)

pub give_up-move_all-requires-else-len : goal.give_up-move_all-requires-else-len
give_up-move_all-requires-else-len t c = grind (arith, common_steps, pushed)

pub give_up-move_all-requires : goal.give_up-move_all-requires
give_up-move_all-requires t c = grind (arith, common_steps, pushed)

pub give_up-loop-value-smaller-then-len : goal.give_up-loop-value-smaller-then-len
give_up-loop-value-smaller-then-len t c = grind (arith, common_steps, pushed)

pub give_up-loop-value-smaller-else-len : goal.give_up-loop-value-smaller-else-len
give_up-loop-value-smaller-else-len t c = grind (arith, common_steps, pushed)

pub give_up-loop-value-preserved-then-len : goal.give_up-loop-value-preserved-then-len
give_up-loop-value-preserved-then-len t c = grind (arith, common_steps, pushed)

pub move_all-loop-item-preserved : goal.move_all-loop-item-preserved
move_all-loop-item-preserved t c = grind (arith, common_steps, pushed)

pub give_up-loop-value-preserved-else-len : goal.give_up-loop-value-preserved-else-len
give_up-loop-value-preserved-else-len t c = grind (arith, common_steps, pushed)

pub move_all-loop-item-preserved-in-Ok : goal.move_all-loop-item-preserved-in-Ok
move_all-loop-item-preserved-in-Ok t c = grind (arith, common_steps, pushed)

pub give_up-loop-value-smaller : goal.give_up-loop-value-smaller
give_up-loop-value-smaller t c = grind (arith, common_steps, pushed)

pub give_up-loop-value-preserved : goal.give_up-loop-value-preserved
give_up-loop-value-preserved t c = grind (arith, common_steps, pushed)
