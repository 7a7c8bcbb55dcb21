-- the pairs so far are copied
use Rattle.std.proofs.Common.{◌≡◌, take}
use Rattle.bq_value_dict.proofs.dict.many_of.Given as goal

abbrev pub invariant-loop-i : goal.invariant-loop-i
invariant-loop-i l = l.many ≡ take l.i l.few
