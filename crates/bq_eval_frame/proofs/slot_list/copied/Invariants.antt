use Rattle.std.proofs.Common.{◌≡◌, ◌++◌, drop}
use Rattle.bq_eval_frame.proofs.slot_list.copied.Given as goal

abbrev pub invariant-loop-slot : goal.invariant-loop-slot
invariant-loop-slot l = l.all.items ++ drop l.slot-index l.slots ≡ l.slots
