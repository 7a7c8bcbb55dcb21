use Rattle.std.proofs.Common.{◌≡◌, ◌+◌, ◌-◌, length}
use Rattle.bq_eval_frame.specs.Slots.{list_slots}
use Rattle.bq_eval_frame.proofs.slot_list.put.Given as goal

abbrev pub invariant-loop-slots : goal.invariant-loop-slots
invariant-loop-slots l = list_slots l.slots.items ≡ list_slots l.fn.slots.items

abbrev pub decreases-loop-slots : goal.decreases-loop-slots
decreases-loop-slots l = l.slot + 1 - length l.slots.items
