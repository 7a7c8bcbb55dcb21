-- the pairs so far are copied
use Rattle.std.proofs.Common.{◌≡◌, take}
use Rattle.bq_value_dict.proofs.dict.Dict.copy.Given as goal

abbrev pub invariant-loop-i : goal.invariant-loop-i
invariant-loop-i l = l.copy ≡ take l.i l.self
