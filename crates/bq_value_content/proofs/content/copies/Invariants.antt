-- the values so far are shared
use Rattle.std.proofs.Common.{◌≡◌, take}
use Rattle.bq_value_content.proofs.content.copies.Given as goal

abbrev pub invariant-loop-value : goal.invariant-loop-value
invariant-loop-value l = l.shares.items ≡ take l.value-index l.values
